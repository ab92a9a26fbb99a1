-- What the inner functions of a write with lost columns owe, over plain numbers and lists.
-- Assumes nothing.
use Prim.Native.Nat.{ℕ, ◌+◌, ◌-◌, ◌<◌, ◌≤◌}
use mathlib.Core.Bool.{Bool, true, false}
use mathlib.Core.List.{List}
use mathlib.Core.Path.{◌≡◌, refl, sym, ap, ap₂, subst, ◌∙◌, fun_ext}
use native.Mathlib.Omega.{arith}
use lib.ListN.{length, get_or, take, drop}
use borrow.Author.Tests.{lt-ltb}
use Rattle.std.specs.Prelude.{Result, Ok}
use borrow.Rule.Slice.PartMut.{put_mid}
use Rattle.laws.proofs.Mid.{mid_put}
use Rattle.laws.proofs.Part.{length_part, get_or_part}
use Rattle.laws.proofs.Tab.{length_tab, get_or_tab}
use Rattle.laws.specs.Left.{Left, Leaves}
use Rattle.laws.specs.Number.{put32}
use Rattle.laws.specs.Part.{part, put, tab}
use Rattle.laws.specs.Patch.{Patched}
use Rattle.stripe.proofs.Frame.{image_data}
use Rattle.stripe.proofs.Places.{strip_from, strip_in, parity_in}
use Rattle.stripe.specs.Layout.{revision_at}
use Rattle.pattern.specs.Pattern.{is_lost}
use Rattle.rebuild.specs.Lost.{whole_byte, whole_data}
use Rattle.revision.specs.Revision.{renewed}
use Rattle.revision.specs.declared.Age.TheVariants.{Current}
use Rattle.write.proofs.After.{put_patched}
use Rattle.present.specs.declared.Spot.{Spot}
use Rattle.present.specs.Present.{present_placed, present_written}
use Rattle.present.specs.Steps.{spot_at, parity_moved, Target}
use Rattle.write.specs.Steps.{Placed, settled}
use Rattle.away.proofs.Back.{comes_back}
use Rattle.away.proofs.Empty.{difference_there}
use Rattle.away.specs.Away.{away_written, away_judged}
use Rattle.away.specs.Steps.{Away, restored_in, AwayPlaced}
use Rattle.write.specs.declared.Accepted.{Accepted}
use Rattle.write.specs.declared.Refused.{Refused}

-- ---- a strip of a present column: x is whether it is lost

pub there_placed : (s u : List ℕ) (spot : Spot) (v : List ℕ) (n : ℕ) (x : Bool) → x ≡ is_lost spot.lost spot.column → x ≡ false → Placed s u spot v n → AwayPlaced s u spot v n
unfolding present_placed
there_placed s u spot v n x e h P =
    let z : is_lost spot.lost spot.column ≡ false = sym e ∙ h in
    let f : (ℕ → ℕ) → List ℕ = λ d. put (parity_moved s spot d) (spot_at spot) v in
    record { counted = P.counted; bytes = rw z (P.bytes ∙ ap f (fun_ext (difference_there s spot.q spot.lost spot.column spot.row v z))) }

-- ---- a strip of a lost one

module _ (s : List ℕ) (spot : Spot) (v : List ℕ) (A : Away s spot v) where
  pub strip_ends : (at : ℕ) → at ≡ spot_at spot → at + spot.q.b ≤ length s
  strip_ends at c = omega (arith, A.target.accepted.len, strip_in spot.q spot.column spot.row A.target.column A.target.row, parity_in spot.q)

  -- the restored strip k swapped into its place
  pub swapped : (at : ℕ) (o k : List ℕ) → at ≡ spot_at spot → o ≡ tab spot.q.b (whole_byte s spot.q spot.lost spot.column spot.row) → k ≡ o → put_mid at (at + spot.q.b - at) s k ≡ restored_in s spot
  unfolding restored_in
  swapped at o k c f g =
      let w : at + spot.q.b - at ≡ spot.q.b = omega arith in
      mid_put s at (at + spot.q.b - at) k (ap length (g ∙ f) ∙ length_tab spot.q.b (whole_byte s spot.q spot.lost spot.column spot.row) ∙ sym w) ∙ ap₂ (put s) c (g ∙ f)

  module _ (u : List ℕ) (g : u ≡ restored_in s spot) where
    o : List ℕ
    o = tab spot.q.b (whole_byte s spot.q spot.lost spot.column spot.row)

    width : length o ≡ spot.q.b
    unfolding o
    width = length_tab spot.q.b (whole_byte s spot.q spot.lost spot.column spot.row)

    old_byte : (x : ℕ) → x < spot.q.b → get_or o x 0 ≡ whole_data s spot.q spot.lost spot.column spot.row x
    unfolding o whole_byte
    old_byte x h = get_or_tab spot.q.b (whole_byte s spot.q spot.lost spot.column spot.row) x h ∙ rw (lt-ltb spot.column spot.q.k A.target.column)

    old_step : Patched s u (spot_at spot) (length o) (λ x. get_or o x 0)
    unfolding o restored_in
    old_step = rw g (put_patched s o (spot_at spot) (omega (arith, width, strip_ends (spot_at spot) refl)))

    pub old_target : Target u spot v
    old_target = record {
      accepted = image_data s u spot.q (spot_at spot) (length o) (λ x. get_or o x 0) A.target.accepted old_step (strip_from spot.q spot.column spot.row)
          (omega (arith, width, strip_in spot.q spot.column spot.row A.target.column A.target.row));
      column = A.target.column;
      row = A.target.row;
      width = A.target.width;
    }

    -- the new strip placed there, then the bytes h that s held
    pub lost_placed : is_lost spot.lost spot.column ≡ true → (at : ℕ) (h z y : List ℕ) (n : ℕ) → at ≡ spot_at spot → h ≡ take (at + spot.q.b - at) (drop at s) → Placed u z spot v n → y ≡ put z at h → AwayPlaced s y spot v n
    unfolding part
    lost_placed e at h z y n c k P l =
        let w : at + spot.q.b - at ≡ spot.q.b = omega arith in
        let f : h ≡ part s (spot_at spot) spot.q.b = k ∙ ap₂ (λ (a b : ℕ). take a (drop b s)) w c in
        let j : spot_at spot + spot.q.b ≤ length s = strip_ends (spot_at spot) refl in
        record {
          counted = P.counted;
          bytes = l ∙ ap₂ (λ (x : List ℕ) (a : ℕ). put x a h) P.bytes c
              ∙ comes_back s u spot.q spot.lost spot.column spot.row v o h A.target.accepted A.target.column A.target.row A.target.width width old_byte old_step
              (ap length f ∙ length_part s (spot_at spot) spot.q.b j) (λ x x<. ap (λ (l : List ℕ). get_or l x 0) f ∙ get_or_part s (spot_at spot) spot.q.b x x<) e;
        }

-- ---- the revision

module _ (s u : List ℕ) (spot : Spot) (v : List ℕ) (n : ℕ) (P : AwayPlaced s u spot v n) where
  pub away_left : (z : List ℕ) (b : ℕ) (x : Result Accepted Refused) → Leaves (settled u spot.column b n) x z → Leaves (away_judged s spot.q spot.lost spot.column spot.row b v Current) x z
  unfolding away_judged away_written present_written settled
  away_left z b x =
      subst (λ (l : Left (Result Accepted Refused)). Leaves l x z)
      (ap₂ (λ (c : ℕ) (l : List ℕ). record { answer = Ok (record { revision = renewed b; count = c }); image = put32 l (revision_at spot.column) (renewed b) }) P.counted P.bytes)
