-- The pattern of the absent columns.
-- Assumes nothing.
use Prim.Native.Nat.{ℕ, zero, suc, ◌+◌, ◌-◌, ◌*◌, ◌%◌, ◌^◌, ◌<◌, ◌≤◌}
use mathlib.Core.Path.{◌≡◌, refl, sym, ap, ◌∙◌}
use native.Mathlib.Nat.{mod-lt, mod-eq_of_lt}
use native.Mathlib.Omega.{arith}
use lib.Bits.{bit_xor}
use lib.Dec.{eqb}
use lib.Pow.{pow_pos, pow-add, pow-lt}
use Rattle.laws.proofs.Bit.{is_pack, bit_mod, bit_of_xor, bit_pack, bit_digit}
use Rattle.laws.proofs.Xor.{zero_⊕, ⊕_self}
use Rattle.laws.specs.Bit.{bit, pack}
use Rattle.laws.specs.Choose.{choose}
use Rattle.laws.specs.Xor.{◌⊕◌}
use Rattle.stripe.specs.Params.{Admitted}
use Rattle.stripe.specs.declared.Params.{Params}
use Rattle.columns.specs.Import.{absent}

ones : (k : ℕ) → pack k (λ i. 1) ≡ 2 ^ k - 1
unfolding pack
ones zero = refl
ones (suc k) =
    let e : 1 + k ≡ suc k = omega arith in
    let d : 2 ^ suc k ≡ 2 * 2 ^ k = ap (λ (x : ℕ). 2 ^ x) (sym e) ∙ pow-add 2 1 k in
    omega (arith, ones k, pow_pos k, d)

bit_ones : (k i : ℕ) → i < k → bit (2 ^ k - 1) i ≡ 1
bit_ones k i h = ap (λ (x : ℕ). bit x i) (sym (ones k)) ∙ bit_pack k (λ j. 1) i h

flipped : (b : ℕ) → b < 2 → b ⊕ 1 ≡ choose (eqb b 0) 1 0 % 2
flipped zero h = zero_⊕ 1
flipped (suc zero) h = ⊕_self 1
flipped (suc (suc b)) h = absurd (omega arith)

complement : (k met : ℕ) → (met ⊕ (2 ^ k - 1)) % 2 ^ k ≡ pack k (λ n. choose (eqb (bit met n) 0) 1 0)
complement k met =
    is_pack k ((met ⊕ (2 ^ k - 1)) % 2 ^ k) _ (mod-lt (met ⊕ (2 ^ k - 1)) (pow_pos k))
    (λ i h. bit_mod (met ⊕ (2 ^ k - 1)) k i h ∙ bit_of_xor met (2 ^ k - 1) i ∙ ap (λ (x : ℕ). bit met i ⊕ x) (bit_ones k i h) ∙ flipped (bit met i) (bit_digit met i))

module _ (q : Params) (A : Admitted q) where
  shifted : 1 * 2 ^ (q.k + q.r) % 2 ^ 64 ≡ 2 ^ (q.k + q.r)
  shifted = let l : q.k + q.r < 64 = omega (arith, A.fits, A.p_high) in omega (arith, mod-eq_of_lt (pow-lt l))

  pub some_all : 1 ≤ 1 * 2 ^ (q.k + q.r) % 2 ^ 64
  some_all = omega (arith, shifted, pow_pos (q.k + q.r))

  pub absent_is : (met : ℕ) → bit_xor met (1 * 2 ^ (q.k + q.r) % 2 ^ 64 - 1) % (1 * 2 ^ (q.k + q.r) % 2 ^ 64) ≡ absent q met
  unfolding absent ◌⊕◌
  absent_is met = rw shifted (complement (q.k + q.r) met)
