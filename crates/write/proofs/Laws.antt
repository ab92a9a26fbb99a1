-- What the inner functions of a write owe, over plain numbers and lists.
-- Assumes nothing.
use Prim.Native.Nat.{ℕ, ◌+◌, ◌*◌, ◌/◌, ◌%◌, ◌<◌, ◌≤◌}
use mathlib.Core.List.{List}
use mathlib.Core.Path.{◌≡◌, refl, sym, ap, subst, ◌∙◌}
use native.Mathlib.Nat.{mod-lt}
use native.Mathlib.Omega.{arith}
use lib.Bits.{bit_xor}
use lib.ListN.{length, get_or, set}
use Rattle.std.specs.Prelude.{Result}
use Rattle.laws.specs.Left.{Left, Leaves}
use Rattle.laws.proofs.Part.{length_put}
use Rattle.laws.proofs.Patch.{patch_front, patch_all, is_patch, patch_by, patched}
use Rattle.laws.proofs.Tab.{length_tab, get_or_tab}
use Rattle.laws.specs.Bit.{bit}
use Rattle.laws.specs.Part.{tab}
use Rattle.laws.specs.Patch.{Patched, patch}
use Rattle.laws.specs.Sum.{pick}
use Rattle.laws.specs.Xor.{◌⊕◌}
use Rattle.stripe.proofs.Places.{strip_in, parity_in, parity_end}
use Rattle.stripe.specs.Layout.{column_length, image_length, parity_from}
use Rattle.stripe.specs.declared.Params.{Params}
use Rattle.revision.specs.declared.Age.TheVariants.{Current}
use Rattle.write.proofs.Empty.{none_settled}
use Rattle.present.specs.Present.{present_word, present_moved, present_count}
use Rattle.present.specs.declared.Spot.{Spot}
use Rattle.present.specs.Steps.{spot_at, strip_byte, Shifted, Target}
use Rattle.write.specs.Steps.{Strips, differed, Moved, Placed, settled}
use Rattle.write.specs.Written.{difference, write_judged}
use Rattle.write.specs.declared.Accepted.{Accepted}
use Rattle.write.specs.declared.Refused.{Refused}

-- ---- the difference of two strips

module _ (s : List ℕ) (at : ℕ) (v out u : List ℕ) (x : ℕ) (S : Strips s at v out) (d : Patched out u 0 x (differed s at v)) where
  pub differ_more : x < length out → Patched out (set u x (bit_xor (get_or s (at + x) 0) (get_or v x 0))) 0 (x + 1) (differed s at v)
  unfolding differed ◌⊕◌
  differ_more h = patch_front out u x (differed s at v) _ d (omega arith) refl

  pub differ_end : x ≤ length out → length out ≤ x → u ≡ tab (length v) (differed s at v)
  differ_end h g =
      let e : x ≡ length out = omega arith in
      patch_all out u (tab (length v) (differed s at v)) (differed s at v) (rw e at d) (length_tab (length v) (differed s at v) ∙ sym S.same)
      (λ i l. sym (get_or_tab (length v) (differed s at v) i (omega arith)))

-- ---- the difference of a new strip, added to present parity

module _ (s : List ℕ) (spot : Spot) (v : List ℕ) (T : Target s spot v) (at : ℕ) (e : at ≡ spot_at spot) where
  pub strip_fits : at + length v ≤ length s
  strip_fits = omega (arith, T.width, T.accepted.len, strip_in spot.q spot.column spot.row T.column T.row, parity_in spot.q)

  module _ (d : List ℕ) (f : d ≡ tab (length v) (differed s at v)) where
    difference_byte : (x : ℕ) → x < spot.q.b → get_or d x 0 ≡ difference s spot.q spot.column spot.row v x
    unfolding difference differed
    difference_byte x h = ap (λ (l : List ℕ). get_or l x 0) f ∙ get_or_tab (length v) (differed s at v) x (omega (arith, T.width)) ∙ ap (λ (a : ℕ). get_or s (a + x) 0 ⊕ get_or v x 0) e

    pub difference_moved : (u : List ℕ) (x : ℕ) → Shifted s u spot d spot.q.r x → Moved s u spot v x
    unfolding present_moved present_count
    difference_moved u x S = record {
      counted = S.counted;
      bytes = is_patch s u (parity_from spot.q) (spot.q.r * column_length spot.q) (present_moved s spot.q spot.lost spot.column spot.row (difference s spot.q spot.column spot.row v)) (omega (arith, T.accepted.len, parity_end spot.q))
          (patch_by s u (parity_from spot.q) (spot.q.r * column_length spot.q) (present_moved s spot.q spot.lost spot.column spot.row (strip_byte d)) (present_moved s spot.q spot.lost spot.column spot.row (difference s spot.q spot.column spot.row v)) S.bytes
          (λ o h. ap (λ (y : ℕ). get_or s (parity_from spot.q + o) 0 ⊕ pick (bit (present_word spot.q spot.lost spot.column spot.row (o / column_length spot.q)) (o % column_length spot.q / spot.q.b)) y)
          (difference_byte (o % column_length spot.q % spot.q.b) (mod-lt (o % column_length spot.q) T.accepted.admitted.b_low))));
    }

-- ---- the strip in its place, and the revision

-- the length stays
pub placed_length : (s u : List ℕ) (spot : Spot) (v : List ℕ) (n : ℕ) → Target s spot v → Placed s u spot v n → length u ≡ length s
placed_length s u spot v n T P =
    let f : ℕ → ℕ = present_moved s spot.q spot.lost spot.column spot.row (difference s spot.q spot.column spot.row v) in
    let p : List ℕ = patch s (parity_from spot.q) (spot.q.r * column_length spot.q) f in
    let a = (patched s p (parity_from spot.q) (spot.q.r * column_length spot.q) f (omega (arith, T.accepted.len, parity_end spot.q)) refl).len in
    ap length P.bytes ∙ length_put p (spot_at spot) v (omega (arith, strip_fits s spot v T (spot_at spot) refl)) ∙ a

pub placed_long : (s u : List ℕ) (spot : Spot) (v : List ℕ) (n : ℕ) → Target s spot v → Placed s u spot v n → length u ≡ image_length spot.q
placed_long s u spot v n T P = placed_length s u spot v n T P ∙ T.accepted.len

pub none_left : (s u z : List ℕ) (q : Params) (i t b : ℕ) (v : List ℕ) (n : ℕ) (x : Result Accepted Refused) → Placed s u (record { q = q; lost = 0; column = i; row = t }) v n → Leaves (settled u i b n) x z → Leaves (write_judged s q i t b v Current) x z
none_left s u z q i t b v n x P = subst (λ (l : Left (Result Accepted Refused)). Leaves l x z) (none_settled s u q i t b v n P)
