-- Odd primes.
-- Assumes nothing.
use Prim.Native.Nat.{ℕ, ◌≤◌, ◌<◌, ◌%◌, ◌-◌, ◌+◌, suc}
use mathlib.Core.Bool.{not}
use mathlib.Core.Logic.{◌≢◌}
use mathlib.Core.Path.{◌≡◌, subst, sym, ap, ◌∙◌}
use native.Mathlib.Omega.{arith}
use lib.Dec.{eqb, leb, eqb→eq, leb→le, le→leb, T_not, T, not_T}
use Rattle.laws.proofs.Choose.{and_left, and_right, both_T, below_at, at_below}
use Rattle.algebra.specs.Prime.{odd_prime}

pub prime_three : (p : ℕ) → T (odd_prime p) → 3 ≤ p
unfolding odd_prime
prime_three p t = leb→le 3 p (and_left (leb 3 p) _ t)

pub prime_odd : (p : ℕ) → T (odd_prime p) → p % 2 ≡ 1
unfolding odd_prime
prime_odd p t =
    let three : 3 ≤ p = prime_three p t in
    let no_two : T (not (eqb (p % (0 + 2)) 0)) = below_at (λ d. not (eqb (p % (d + 2)) 0)) (p - 2) (and_right (leb 3 p) _ t) 0 (omega arith) in
    let ne : p % 2 ≢ 0 = λ e. T_not (eqb (p % 2) 0) no_two (subst (λ (x : ℕ). T (eqb x 0)) (sym e) tt) in
    omega arith

-- from a p in hand to the n = p - 1 of the laws
pub suc_pred : (p : ℕ) → T (odd_prime p) → suc (p - 1) ≡ p
suc_pred p t = omega (arith, prime_three p t)

pub prime_pred : (p : ℕ) → T (odd_prime p) → T (odd_prime (suc (p - 1)))
prime_pred p t = subst (λ (k : ℕ). T (odd_prime k)) (sym (suc_pred p t)) t

-- what the definition says: 3 or more, and no divisor
pub record OddPrime (p : ℕ) : Type 0 where
  pub three : 3 ≤ p
  pub no_divisor : (d : ℕ) → 2 ≤ d → d < p → p % d ≢ 0

pub prime_is : (p : ℕ) → T (odd_prime p) → OddPrime p
unfolding odd_prime
prime_is p t = record {
  three = prime_three p t;
  no_divisor = λ d h l e.
      let z : d - 2 + 2 ≡ d = omega arith in
      T_not (eqb (p % (d - 2 + 2)) 0) (below_at (λ d. not (eqb (p % (d + 2)) 0)) (p - 2) (and_right (leb 3 p) _ t) (d - 2) (omega arith))
      (subst (λ (x : ℕ). T (eqb x 0)) (sym (ap (λ (x : ℕ). p % x) z ∙ e)) tt);
}

pub is_prime : (p : ℕ) → OddPrime p → T (odd_prime p)
unfolding odd_prime
is_prime p o =
    both_T (leb 3 p) _ (le→leb 3 p o.three)
    (at_below (λ d. not (eqb (p % (d + 2)) 0)) (p - 2) (λ d l. not_T (eqb (p % (d + 2)) 0) (λ t. o.no_divisor (d + 2) (omega arith) (omega arith) (eqb→eq (p % (d + 2)) 0 t))))
