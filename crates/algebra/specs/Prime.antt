-- "p is an odd prime."
-- Assumes nothing.
use Rattle.std.specs.Prelude.{ℕ, ◌+◌, ◌-◌, ◌%◌, ◌≤◌, Bool, not, ◌&&◌, T, leb, eqb}
use Rattle.laws.specs.Choose.{below}

-- 3 or more, and none of the numbers from 2 to p - 1 divides it
unfoldable pub odd_prime : ℕ → Bool
odd_prime p = leb 3 p && below (p - 2) (λ d. not (eqb (p % (d + 2)) 0))

-- "p an odd prime from 3 to 61"
pub record Modulus (p : ℕ) : Type 0 where
  pub small : p ≤ 61
  pub prime : T (odd_prime p)
