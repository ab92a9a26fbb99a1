-- A pattern with the bit of a column turned.
-- Assumes nothing.
use Prim.Native.Nat.{ℕ, ◌+◌, ◌-◌, ◌*◌, ◌^◌, ◌<◌}
use mathlib.Core.Logic.{◌≢◌}
use mathlib.Core.Path.{◌≡◌, sym, ap, ap₂, ◌∙◌}
use native.Mathlib.Decide.{dec_lt}
use native.Mathlib.Omega.{arith}
use lib.Pow.{pow_pos}
use Rattle.laws.proofs.Bit.{bit_of_xor, bit_low, bit_high, bit_zero}
use Rattle.laws.proofs.Xor.{⊕_zero, zero_⊕}
use Rattle.laws.specs.Bit.{bit}
use Rattle.laws.specs.Xor.{◌⊕◌}

-- ---- a power of two by its bits

bit_one : (j : ℕ) → 0 < j → bit 1 j ≡ 0
bit_one j h =
    let i : ℕ = j - 1 in
    let f : 1 + i ≡ j = omega arith in
    let g : 1 < 2 = omega arith in
    ap (bit 1) (sym f) ∙ bit_high 0 1 i {lo = 1} g ∙ bit_zero i

power_same : (n : ℕ) → bit (2 ^ n) n ≡ 1
unfolding bit
power_same n =
    let e : 1 * 2 ^ n + 0 ≡ 2 ^ n = omega arith in
    let f : n + 0 ≡ n = omega arith in
    ap₂ bit (sym e) (sym f) ∙ bit_high 1 n 0 (pow_pos n)

power_other : (n m : ℕ) → m ≢ n → bit (2 ^ n) m ≡ 0
power_other n m d = go (dec_lt m n)
  where
    e : 1 * 2 ^ n + 0 ≡ 2 ^ n
    e = omega arith

    go : Dec (m < n) → bit (2 ^ n) m ≡ 0
    go (yes h) = ap (λ (x : ℕ). bit x m) (sym e) ∙ bit_low 1 n m (pow_pos n) h ∙ bit_zero m
    go (no h) =
        let j : ℕ = m - n in
        let f : n + j ≡ m = omega arith in
        let g : 0 < j = omega (arith, d) in
        ap₂ bit (sym e) (sym f) ∙ bit_high 1 n j (pow_pos n) ∙ bit_one j g

-- ---- one column more

pub mark_same : (met n : ℕ) → bit met n ≡ 0 → bit (met ⊕ 2 ^ n) n ≡ 1
mark_same met n h = bit_of_xor met (2 ^ n) n ∙ ap₂ ◌⊕◌ h (power_same n) ∙ zero_⊕ 1

pub mark_other : (met n m : ℕ) → m ≢ n → bit (met ⊕ 2 ^ n) m ≡ bit met m
mark_other met n m d = bit_of_xor met (2 ^ n) m ∙ ap (λ (x : ℕ). bit met m ⊕ x) (power_other n m d) ∙ ⊕_zero (bit met m)
