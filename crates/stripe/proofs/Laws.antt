-- What the tests of the parameters show of their definitions.
-- Assumes nothing.
use Prim.Native.Nat.{ℕ, ◌+◌, ◌%◌, ◌<◌, ◌≤◌}
use mathlib.Core.Bool.{Bool, true, false, not, ◌&&◌}
use mathlib.Core.List.{[], ◌∷◌}
use mathlib.Core.Path.{◌≡◌, refl, sym, ◌∙◌}
use native.Mathlib.Omega.{arith}
use lib.Dec.{eqb, leb, ltb, T, leb→le}
use borrow.Author.Tests.{le-leb}
use Rattle.std.specs.List.{list_any}
use Rattle.std.specs.Prelude.{Ok, Err}
use Rattle.laws.proofs.Choose.{and_left, and_right, below_at}
use Rattle.laws.specs.Choose.{below}
use Rattle.algebra.proofs.Prime.{OddPrime, prime_is}
use Rattle.algebra.specs.Prime.{odd_prime}
use Rattle.refusal.specs.declared.Refusal.TheVariants.{Prime, Shape, Strip}
use Rattle.stripe.specs.Params.{admitted_prime, admitted_shape, admitted_strip, checked_of}

untrue : (b : Bool) → (T b → ⊥) → false ≡ b
untrue true n = absurd (n tt)
untrue false n = refl

-- ---- the ways out of `admits`

admitted_odd : (p : ℕ) → T (admitted_prime p) → OddPrime p
unfolding admitted_prime
admitted_odd p t = prime_is p (and_left (odd_prime p) (leb p 61) t)

pub below_three : (p : ℕ) → p < 3 → false ≡ admitted_prime p
below_three p h = untrue _ (λ t. omega (arith, (admitted_odd p t).three))

pub above_largest : (p : ℕ) → 61 < p → false ≡ admitted_prime p
unfolding admitted_prime
above_largest p h = untrue _ (λ t. omega (arith, leb→le p 61 (and_right (odd_prime p) (leb p 61) t)))

-- what `admits` tests, from 3 to the largest
unfoldable pub has_factor : ℕ → Bool
has_factor p = list_any (λ d. ltb d p && eqb (p % d) 0) (2 ∷ 3 ∷ 4 ∷ 5 ∷ 6 ∷ 7 ∷ [])

alike : Bool → Bool → Bool
alike true b = b
alike false b = not b

alike_same : (a b : Bool) → T (alike a b) → a ≡ b
unfolding alike
alike_same true true t = refl
alike_same true false t = absurd t
alike_same false true t = absurd t
alike_same false false t = refl

-- by computation
tested : T (below 62 (λ p. alike (leb 3 p && not (has_factor p)) (odd_prime p)))
unfolding has_factor odd_prime below alike
tested = tt

and_true : (b : Bool) → b ≡ (b && true)
and_true true = refl
and_true false = refl

pub admits_tested : (p : ℕ) (x : Bool) → 3 ≤ p → p ≤ 61 → x ≡ has_factor p → not x ≡ admitted_prime p
unfolding admitted_prime
admits_tested p x h l e =
    let y : (leb 3 p && not (has_factor p)) ≡ odd_prime p = alike_same _ _ (below_at (λ p. alike (leb 3 p && not (has_factor p)) (odd_prime p)) 62 tested p (omega arith)) in
    rw (e, ← y, le-leb 3 p h, le-leb p 61 l) (and_true (not (has_factor p)))

-- ---- an admitted shape

-- "k at least 1, r at least 1, k+r at most p"
pub record Shaped (p k r : ℕ) : Type 0 where
  pub k_low : 1 ≤ k
  pub r_low : 1 ≤ r
  pub fits : k + r ≤ p

pub shape_is : (p k r : ℕ) → T (admitted_shape p k r) → Shaped p k r
unfolding admitted_shape
shape_is p k r t =
    let u = and_right (leb 1 k) (leb 1 r && leb (k + r) p) t in
    record { k_low = leb→le 1 k (and_left (leb 1 k) _ t); r_low = leb→le 1 r (and_left (leb 1 r) _ u); fits = leb→le (k + r) p (and_right (leb 1 r) _ u) }

-- ---- the ways out of `checked`: x, y and z are what the three tests gave

module _ (p k r b : ℕ) (x : Bool) (e : x ≡ admitted_prime p) where
  pub prime_refused : x ≡ false → Err Prime ≡ checked_of p k r b
  unfolding checked_of
  prime_refused h = simp (sym e ∙ h)

  module _ (o : x ≡ true) (y : Bool) (f : y ≡ admitted_shape p k r) where
    pub shape_refused : y ≡ false → Err Shape ≡ checked_of p k r b
    unfolding checked_of
    shape_refused h = simp (sym e ∙ o, sym f ∙ h)

    module _ (n : y ≡ true) (z : Bool) (g : z ≡ admitted_strip b) where
      pub strip_refused : z ≡ false → Err Strip ≡ checked_of p k r b
      unfolding checked_of
      strip_refused h = simp (sym e ∙ o, sym f ∙ n, sym g ∙ h)

      pub sound : z ≡ true → Ok (record { p = p; k = k; r = r; b = b }) ≡ checked_of p k r b
      unfolding checked_of
      sound h = simp (sym e ∙ o, sym f ∙ n, sym g ∙ h)
