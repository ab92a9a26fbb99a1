-- What the functions on one row owe, over plain lists.
-- Assumes nothing.
use Prim.Native.Nat.{ℕ, ◌+◌, ◌<◌}
use mathlib.Core.List.{List}
use mathlib.Core.Path.{◌≡◌, sym, ap, ap₂, ◌∙◌, refl}
use native.Mathlib.Omega.{arith}
use lib.Bits.{bit_xor, bit_or, or_add_and, and_le_r, or_comm}
use lib.ListN.{get_or, length, set}
use borrow.Author.Count.{below_more}
use Rattle.laws.proofs.Patch.{patch_front}
use Rattle.laws.proofs.Xor.{⊕_zero, ⊕_self, ⊕_assoc, zero_⊕}
use Rattle.laws.specs.Patch.{Patched}
use Rattle.laws.specs.Xor.{◌⊕◌}
use Rattle.quotient.specs.Lanes.{Shows, RowStands}

-- ---- `put`

pub put_more : (s t row sum : List ℕ) (x : ℕ) → x < length s → Patched s t 0 x (λ o. get_or row o 0 ⊕ get_or sum o 0)
    → Patched s (set t x (bit_xor (get_or row x 0) (get_or sum x 0))) 0 (x + 1) (λ o. get_or row o 0 ⊕ get_or sum o 0)
unfolding ◌⊕◌
put_more s t row sum x h d = patch_front s t x (λ o. get_or row o 0 ⊕ get_or sum o 0) _ d h refl

-- ---- `differ`

or_none : (a b : ℕ) → a ≡ 0 → b ≡ 0 → bit_or a b ≡ 0
or_none a b h k = ap₂ bit_or h k

or_left : (a b : ℕ) → bit_or a b ≡ 0 → a ≡ 0
or_left a b e = omega (arith, or_add_and a b, and_le_r a b)

or_right : (a b : ℕ) → bit_or a b ≡ 0 → b ≡ 0
or_right a b e = or_left b a (or_comm b a ∙ e)

xor_same : (a b : ℕ) → bit_xor a b ≡ 0 → a ≡ b
unfolding ◌⊕◌
xor_same a b e = sym (⊕_zero a) ∙ ap (λ (x : ℕ). bit_xor a x) (sym (⊕_self b)) ∙ sym (⊕_assoc a b b) ∙ ap (λ (x : ℕ). bit_xor x b) e ∙ zero_⊕ b

pub differ_more : (s row sum : List ℕ) (bad all x : ℕ) → Shows bad all (RowStands s row sum x)
    → Shows bad (bit_or all (bit_xor (get_or s x 0) (bit_xor (get_or row x 0) (get_or sum x 0)))) (RowStands s row sum (x + 1))
unfolding ◌⊕◌
differ_more s row sum bad all x d =
    let u : ℕ = get_or s x 0 in
    let v : ℕ = bit_xor (get_or row x 0) (get_or sum x 0) in
    record {
      clean = λ h R. or_none all (bit_xor u v) (d.clean h (record { bytes = λ o l. R.bytes o (omega arith) })) (ap (λ (y : ℕ). bit_xor y v) (R.bytes x (omega arith)) ∙ ⊕_self v);
      told = λ h.
          let t = d.told (or_left all (bit_xor u v) h) in
          (t.0, record { bytes = below_more (λ o. get_or s o 0 ≡ get_or row o 0 ⊕ get_or sum o 0) x t.1.bytes (xor_same u v (or_right all (bit_xor u v) h)) });
    }
