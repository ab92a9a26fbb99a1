-- "Admitted: p an odd prime from 3 to 61; k at least 1, r at least 1, k+r at most p; B from 1 to 512."
-- Assumes nothing.
use Rattle.std.specs.Prelude.{ℕ, ◌+◌, ◌≤◌, Bool, ◌&&◌, List, [], ◌∷◌, T, leb, Result, Ok, Err}
use Rattle.laws.specs.Choose.{choose}
use Rattle.algebra.specs.Prime.{odd_prime}
use Rattle.refusal.specs.declared.Refusal.TheVariants.{Prime, Shape, Strip}
use Rattle.stripe.specs.declared.Params.{Params}
use Rattle.refusal.specs.declared.Refusal.{Refusal}

-- "p an odd prime from 3 to 61"
unfoldable pub admitted_prime : ℕ → Bool
admitted_prime p = odd_prime p && leb p 61

-- "k at least 1, r at least 1, k+r at most p"
unfoldable pub admitted_shape : ℕ → ℕ → ℕ → Bool
admitted_shape p k r = leb 1 k && (leb 1 r && leb (k + r) p)

-- "B from 1 to 512"
unfoldable pub admitted_strip : ℕ → Bool
admitted_strip b = leb 1 b && leb b 512

-- "PRIME; SHAPE; STRIP": the parameters, or the first of these refusals that is due
unfoldable pub checked_of : ℕ → ℕ → ℕ → ℕ → Result Params Refusal
checked_of p k r b =
    choose (admitted_prime p)
    (choose (admitted_shape p k r)
    (choose (admitted_strip b) (Ok (record { p = p; k = k; r = r; b = b })) (Err Strip))
    (Err Shape))
    (Err Prime)

-- "every number beside it is 0": the values p, k, r, B of an answer
abbrev pub answer_values : Result Params Refusal → List ℕ
answer_values (Ok q) = q.p ∷ q.k ∷ q.r ∷ q.b ∷ []
answer_values (Err e) = 0 ∷ 0 ∷ 0 ∷ 0 ∷ []

-- what is known of parameters that were found sound
pub record Admitted (q : Params) : Type 0 where
  pub prime : T (odd_prime q.p)
  pub p_low : 3 ≤ q.p
  pub p_high : q.p ≤ 61
  pub k_low : 1 ≤ q.k
  pub r_low : 1 ≤ q.r
  pub fits : q.k + q.r ≤ q.p
  pub b_low : 1 ≤ q.b
  pub b_high : q.b ≤ 512
