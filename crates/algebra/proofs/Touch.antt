-- (x^t + x^u) / (x^a + x^b) as a word: it is (x^t + x^u) times the inverse, and it has a coefficient below p - 1 that is 1.
-- Assumes nothing.
use Prim.Native.Nat.{ℕ, zero, suc, ◌+◌, ◌-◌, ◌*◌, ◌%◌, ◌^◌, ◌<◌, ◌≤◌}
use mathlib.Core.Path.{◌≡◌, sym, ap, ap₂, subst, ◌∙◌, fun_ext}
use native.Mathlib.Decide.{ℕ_discrete}
use native.Mathlib.Nat.{mod-eq_of_lt, zero-lt-suc, add-mod_right}
use native.Mathlib.Omega.{arith}
use lib.Dec.{T}
use Rattle.laws.proofs.Bit.{bit_shr, bit_zero, bit_digit, bit_pack, is_pack, pack_zero}
use Rattle.laws.proofs.Sum.{sum_front, sum_ext, sum_none}
use Rattle.laws.proofs.Xor.{⊕_zero, ⊕_self}
use Rattle.laws.specs.Bit.{bit, weight, pack}
use Rattle.laws.specs.Sum.{pick}
use Rattle.laws.specs.Xor.{◌⊕◌}
use Rattle.algebra.proofs.Divide.{quot_periodic, quot_digit}
use Rattle.algebra.proofs.Lane.{D_act, D_code, D_even, act_swap}
use Rattle.algebra.proofs.Word.{lane_of_periodic, lane_of_digit, lane_of_pack, lane_of_zero}
use Rattle.algebra.proofs.Words.{lane_times, Quotient, quotient_is, element_below, element_weight, is_element_of, word_even, times_lt}
use Rattle.algebra.specs.Divide.{quot, over}
use Rattle.algebra.specs.Lane.{D, act, Even, Apart}
use Rattle.algebra.specs.Prime.{odd_prime}
use Rattle.algebra.specs.Word.{lane_of, times_of, over_of, inverse_of, element}

-- ---- the word 1

one_high : (i : ℕ) → bit 1 (suc i) ≡ 0
unfolding bit
one_high i =
    let e : 1 + i ≡ suc i = omega arith in
    sym (bit_shr 1 1 i ∙ ap (bit 1) e) ∙ bit_zero i

lane_one : (p q : ℕ) → q % p ≡ 0 → lane_of p 1 q ≡ 1
unfolding lane_of bit
lane_one p q e = ap (bit 1) e

lane_other : (p q i : ℕ) → q % p ≡ suc i → lane_of p 1 q ≡ 0
unfolding lane_of
lane_other p q i e = ap (bit 1) e ∙ one_high i

module _ (n : ℕ) where
  -- the product with 1
  act_unit : (w : ℕ → ℕ) (q : ℕ) → act n (lane_of (suc n) 1) w q ≡ w q
  unfolding act pick
  act_unit w q =
      sum_front n (λ i. pick (lane_of (suc n) 1 i) (w (q + i * n)))
      ∙ ap₂ ◌⊕◌ (ap (λ (b : ℕ). pick b (w (q + 0 * n))) (lane_one (suc n) 0 (mod-eq_of_lt (zero-lt-suc n))) ∙ ap w (omega arith))
      (sum_ext n (λ i l. let k : suc i < suc n = omega arith in ap (λ (b : ℕ). pick b (w (q + suc i * n))) (lane_other (suc n) (suc i) i (mod-eq_of_lt k))) ∙ sum_none n)
      ∙ ⊕_zero (w q)

  pub touch_is : (a b t u : ℕ) → over_of (suc n) a b (times_of (suc n) t u 1) ≡ times_of (suc n) t u (inverse_of (suc n) a b)
  unfolding over_of times_of inverse_of
  touch_is a b t u =
      let one_lane : ℕ → ℕ = lane_of (suc n) 1 in
      ap (pack (suc n))
      (ap (over n a b) (lane_times n t u 1)
      ∙ fun_ext (λ q. sym (D_act n t u (quot n a b) one_lane q))
      ∙ ap (D n t u) (fun_ext (λ q. act_swap n (quot n a b) one_lane (quot_periodic n a b) (lane_of_periodic (suc n) 1) (quot_digit n a b) (lane_of_digit (suc n) 1) q ∙ act_unit (quot n a b) q))
      ∙ ap (D n t u) (sym (fun_ext (lane_of_pack n (quot n a b) (quot_periodic n a b) (quot_digit n a b)))))

  -- x^t + x^(p-1) has coefficient t
  pub binomial_at : (t : ℕ) → t < n → bit (times_of (suc n) t n 1) t ≡ 1
  unfolding times_of ◌⊕◌
  binomial_at t h =
      let f : ℕ → ℕ = lane_of (suc n) 1 in
      let e : t + (suc n - t) ≡ suc n = omega arith in
      let k : t + (suc n - n) ≡ suc t = omega arith in
      let l : suc t < suc n = omega arith in
      let z : 0 + suc n ≡ suc n = omega arith in
      let here : f (t + (suc n - t)) ≡ 1 = ap f e ∙ lane_one (suc n) (suc n) (ap (λ (x : ℕ). x % suc n) (sym z) ∙ add-mod_right 0 (suc n) ∙ mod-eq_of_lt (zero-lt-suc n)) in
      let there : f (t + (suc n - n)) ≡ 0 = ap f k ∙ lane_other (suc n) (suc t) t (mod-eq_of_lt l) in
      bit_pack (suc n) (D n t n f) t (omega arith)
      ∙ ap (λ (x : ℕ). x % 2) (D_code n f (lane_of_periodic (suc n) 1) t n t (omega arith) (omega arith) ∙ ap₂ ◌⊕◌ here there)

-- ---- weights

pub weight_most : (u m : ℕ) → weight u m ≤ m
unfolding weight
weight_most u zero = omega arith
weight_most u (suc m) = omega (arith, weight_most u m, bit_digit u m)

weight_none : (u m : ℕ) → weight u m ≡ 0 → (i : ℕ) → i < m → bit u i ≡ 0
unfolding weight
weight_none u zero e i h = absurd (omega arith)
weight_none u (suc m) e i h =
    elim (ℕ_discrete i m) [
      | yes z ↦ ap (bit u) z ∙ omega arith
      | no z ↦ weight_none u m (omega arith) i (omega arith)
    ]

-- an element with no coefficient below p - 1 is 0
none_left : (n w : ℕ) → w < 2 ^ suc n → weight w (suc n) % 2 ≡ 0 → weight w n ≡ 0 → w ≡ 0
unfolding weight
none_left n w h e z =
    let last : bit w n ≡ 0 = omega (arith, bit_digit w n) in
    let all : weight w (suc n) ≡ 0 = omega arith in
    is_pack (suc n) w (λ q. 0) h (λ q l. weight_none w (suc n) all q l) ∙ pack_zero (suc n)

times_none : (n a b : ℕ) → times_of (suc n) a b 0 ≡ 0
unfolding times_of D
times_none n a b =
    ap (pack (suc n)) (fun_ext (λ q. ap₂ ◌⊕◌ (lane_of_zero (suc n) (q + a * n)) (lane_of_zero (suc n) (q + b * n)) ∙ ⊕_self 0)) ∙ pack_zero (suc n)

binomial_even : (n t u : ℕ) → T (element (suc n) (times_of (suc n) t u 1))
binomial_even n t u =
    is_element_of (suc n) (times_of (suc n) t u 1) (times_lt (suc n) t u 1)
    (word_even n (times_of (suc n) t u 1) (subst (Even n) (sym (lane_times n t u 1)) (D_even n t u (lane_of (suc n) 1) (lane_of_periodic (suc n) 1))))

-- "at least one strip of each parity column is touched"
pub touches_some : (n : ℕ) → n < 61 → T (odd_prime (suc n)) → (a b t : ℕ) → Apart (suc n) a b → t < n → 1 ≤ weight (over_of (suc n) a b (times_of (suc n) t n 1)) n
touches_some n small prime a b t d h = go (ℕ_discrete (weight w n) 0)
  where
    w : ℕ
    w = over_of (suc n) a b (times_of (suc n) t n 1)

    go : Dec (weight w n ≡ 0) → 1 ≤ weight w n
    go (no z) = omega arith
    go (yes z) =
        let r : Quotient (suc n) (times_of (suc n) t n 1) a b w = quotient_is (suc n) small prime (times_of (suc n) t n 1) a b d (binomial_even n t n) in
        let gone : w ≡ 0 = none_left n w (element_below (suc n) w r.is_element) (element_weight (suc n) w r.is_element) z in
        let zero : ◌≡◌ {A = ℕ} 0 1 = sym (bit_zero t) ∙ ap (λ (x : ℕ). bit x t) (sym (times_none n a b) ∙ ap (times_of (suc n) a b) (sym gone) ∙ r.times_back) ∙ binomial_at n t h in
        absurd (omega arith)
