-- "Data column i is the polynomial s_i whose coefficient t is strip t, and whose coefficient p-1 is the XOR of all its strips."
-- Assumes nothing.
use Rattle.std.specs.Prelude.{ℕ, suc, ◌%◌, ltb}
use Rattle.laws.specs.Choose.{choose}
use Rattle.laws.specs.Sum.{sum}

module _ (n : ℕ) where
  unfoldable pub coefficient : (ℕ → ℕ) → ℕ → ℕ
  coefficient s i = choose (ltb i n) (s i) (sum n s)

  -- the even lane of the n = p - 1 symbols s
  unfoldable pub lane : (ℕ → ℕ) → ℕ → ℕ
  lane s q = coefficient s (q % suc n)
