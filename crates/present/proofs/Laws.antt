-- What the functions of a move of parity owe, over plain numbers and lists.
-- Assumes nothing.
use Prim.Native.Nat.{ℕ, zero, suc, ◌+◌, ◌-◌, ◌*◌, ◌/◌, ◌%◌, ◌^◌, ◌<◌, ◌≤◌}
use mathlib.Core.Bool.{Bool, true, false}
use mathlib.Core.List.{List}
use mathlib.Core.Path.{◌≡◌, refl, sym, ap, ap₂, subst, ◌∙◌}
use native.Mathlib.Omega.{arith}
use lib.Arith.{digits_div, digits_mod}
use lib.ListN.{length, get_or}
use Rattle.laws.proofs.Bit.{pack_lt}
use Rattle.laws.proofs.Patch.{patch_none, patch_join}
use Rattle.laws.proofs.Rows.{next_row}
use Rattle.laws.specs.Bit.{bit, weight}
use Rattle.laws.specs.Patch.{Patched}
use Rattle.laws.specs.Sum.{total, pick}
use Rattle.laws.specs.Xor.{◌⊕◌}
use Rattle.algebra.proofs.Touch.{touch_is, weight_most}
use Rattle.algebra.proofs.Words.{times_lt}
use Rattle.algebra.specs.Divide.{quot}
use Rattle.algebra.specs.Word.{inverse_of, times_of, over_of, pred}
use Rattle.stripe.proofs.Places.{parity_column_in}
use Rattle.stripe.specs.Layout.{column_length, parity_from, parity_at, rows}
use Rattle.stripe.specs.declared.Params.{Params}
use Rattle.block.specs.Touches.{touch_word}
use Rattle.engine.specs.Strips.{Rows, Scattered, scattered}
use Rattle.pattern.specs.Pattern.{is_lost}
use Rattle.present.specs.Present.{present_word, present_moved}
use Rattle.present.specs.declared.Spot.{Spot}
use Rattle.present.specs.Steps.{Crossing, strip_byte, Shifted, Target}

-- ---- the rows that a data strip touches

pub inverse_small : (p a b x : ℕ) → x ≡ inverse_of p a b → x < 2 ^ p
unfolding inverse_of
inverse_small p a b x e = rw e (pack_lt p (quot (pred p) a b))

pub touch_small : (p a b x w : ℕ) → w ≡ times_of p a b x → w < 2 ^ p
touch_small p a b x w e = rw e (times_lt p a b x)

by_inverse : (p a b t : ℕ) → 1 ≤ p → times_of p t (p - 1) (inverse_of p a b) ≡ over_of p a b (times_of p t (p - 1) 1)
by_inverse zero a b t h = absurd (omega arith)
by_inverse (suc n) a b t h = sym (touch_is n a b t (suc n - 1))

pub touch_right : (spot : Spot) (j x w : ℕ) → Crossing spot j → x ≡ inverse_of spot.q.p j (spot.q.r + spot.column) → w ≡ times_of spot.q.p spot.row (spot.q.p - 1) x → w ≡ touch_word spot.q spot.column spot.row j
unfolding touch_word
touch_right spot j x w c e f = f ∙ ap (times_of spot.q.p spot.row (spot.q.p - 1)) e ∙ by_inverse spot.q.p j (spot.q.r + spot.column) spot.row (omega arith)

-- x is whether the parity column is lost
module _ (q : Params) (m i t j : ℕ) (x : Bool) (e : x ≡ is_lost m (q.k + j)) where
  pub touch_lost : x ≡ true → 0 ≡ present_word q m i t j
  unfolding present_word
  touch_lost h = let z : is_lost m (q.k + j) ≡ true = sym e ∙ h in rw z

  pub touch_there : x ≡ false → (w : ℕ) → w ≡ touch_word q i t j → w ≡ present_word q m i t j
  unfolding present_word
  touch_there h w f = let z : is_lost m (q.k + j) ≡ false = sym e ∙ h in rw z f

-- ---- a difference added to the touched strips of each present parity column

pub shift_none : (s : List ℕ) (spot : Spot) (d : List ℕ) → Shifted s s spot d 0 0
unfolding total
shift_none s spot d =
    let z : 0 ≡ 0 * column_length spot.q = omega arith in
    let f : ℕ → ℕ = present_moved s spot.q spot.lost spot.column spot.row (strip_byte d) in
    record { counted = refl; bytes = subst (λ (n : ℕ). Patched s s (parity_from spot.q) n f) z (patch_none s (parity_from spot.q) f) }

-- byte o of parity column j
moved_column : (s : List ℕ) (q : Params) (m i t : ℕ) (d : List ℕ) (j o : ℕ) → o < column_length q
    → present_moved s q m i t (strip_byte d) (j * column_length q + o) ≡ get_or s (parity_at q j + o) 0 ⊕ pick (bit (present_word q m i t j) (o / q.b)) (get_or d (o % q.b) 0)
unfolding present_moved
moved_column s q m i t d j o h =
    let z : parity_from q + (j * column_length q + o) ≡ parity_at q j + o = omega arith in
    rw (z, digits_div j h, digits_mod j h)

module _ (s u : List ℕ) (spot : Spot) (d : List ℕ) (j c : ℕ) (T : Target s spot d) (S : Shifted s u spot d j c) (h : j < spot.q.r) (at : ℕ) (e : at ≡ parity_at spot.q j) where
  pub shift_rows : Rows u d at (spot.q.p - 1)
  shift_rows = record {
    inside =
        let z : rows spot.q * length d ≡ column_length spot.q = ap (λ (b : ℕ). rows spot.q * b) T.width in
        omega (arith, T.accepted.len, S.bytes.len, parity_column_in spot.q j h);
    few = omega (arith, T.accepted.admitted.p_high);
  }

  pub shift_more : (w : ℕ) (y : List ℕ) (x : ℕ) → w ≡ present_word spot.q spot.lost spot.column spot.row j → Scattered u y d at (spot.q.p - 1) w x → Shifted s y spot d (j + 1) (c + x)
  unfolding total scattered
  shift_more w y x f a =
      let z : suc j ≡ j + 1 = omega arith in
      let n : ℕ = column_length spot.q in
      let k : ℕ → ℕ = present_moved s spot.q spot.lost spot.column spot.row (strip_byte d) in
      let g : ℕ → ℕ = scattered u (parity_at spot.q j) spot.q.b (present_word spot.q spot.lost spot.column spot.row j) d in
      let r : Patched u y (parity_at spot.q j) n g = rw (e, f, T.width) at a.bytes in
      record {
        counted = ap₂ (λ (k l : ℕ). k + l) S.counted (a.count ∙ ap (λ (k : ℕ). weight k (rows spot.q)) f) ∙ ap (λ (n : ℕ). total n (λ l. weight (present_word spot.q spot.lost spot.column spot.row l) (rows spot.q))) z;
        bytes = subst (λ (l : ℕ). Patched s y (parity_from spot.q) l k) (sym (next_row j n))
            (patch_join s u y (parity_from spot.q) (j * n) n k g S.bytes r
            (λ o l.
            ap (λ (k : ℕ). k ⊕ pick (bit (present_word spot.q spot.lost spot.column spot.row j) (o / spot.q.b)) (get_or d (o % spot.q.b) 0)) (S.bytes.above (parity_at spot.q j + o) (omega arith))
            ∙ sym (moved_column s spot.q spot.lost spot.column spot.row d j o l)));
      }

-- no column counts more than its rows
pub scatter_few : (s : List ℕ) (spot : Spot) (u y d : List ℕ) (at w x : ℕ) → Target s spot d → Scattered u y d at (spot.q.p - 1) w x → x ≤ 60
scatter_few s spot u y d at w x T a = omega (arith, a.count, weight_most w (spot.q.p - 1), T.accepted.admitted.p_high)
