-- The pattern of no column, and the count of what a pattern names.
-- Assumes nothing.
use Prim.Native.Nat.{ℕ, zero, suc, ◌+◌, ◌^◌}
use mathlib.Core.Bool.{true, false}
use mathlib.Core.Path.{◌≡◌, ap}
use native.Mathlib.Omega.{arith}
use lib.Dec.{leb}
use lib.Pow.{pow_pos}
use borrow.Author.Tests.{le-leb, lt-ltb}
use Rattle.laws.proofs.Bit.{bit_zero}
use Rattle.laws.specs.Bit.{weight}
use Rattle.stripe.specs.declared.Params.{Params}
use Rattle.pattern.specs.Pattern.{is_lost, pattern_fits, few_lost}

-- ---- none

pub none_lost : (n : ℕ) → is_lost 0 n ≡ false
none_lost n = rw bit_zero

pub weight_zero : (n : ℕ) → weight 0 n ≡ 0
unfolding weight
weight_zero zero = omega arith
weight_zero (suc n) = omega (arith, weight_zero n, bit_zero n)

pub none_fits : (q : Params) → pattern_fits q 0 ≡ true
unfolding pattern_fits
none_fits q = lt-ltb 0 (2 ^ (q.k + q.r)) (pow_pos (q.k + q.r))

pub none_few : (q : Params) → few_lost q 0 ≡ true
unfolding few_lost
none_few q = le-leb (weight 0 (q.k + q.r)) q.r (omega (arith, weight_zero (q.k + q.r)))

-- ---- as many as the parity columns, or fewer

pub few_tested : (q : Params) (m c : ℕ) → c ≡ weight m (q.k + q.r) → leb c q.r ≡ few_lost q m
unfolding few_lost
few_tested q m c e = ap (λ (x : ℕ). leb x q.r) e
