-- The bits of a number, and the number of given bits.
-- Assumes nothing.
use Rattle.std.specs.Prelude.{ℕ, zero, suc, ◌+◌, ◌*◌, ◌/◌, ◌%◌, ◌^◌}

-- bit i of u, 0 or 1
unfoldable pub bit : ℕ → ℕ → ℕ
bit u i = u / 2 ^ i % 2

-- how many of the bits of u below n are set
unfoldable pub weight : ℕ → ℕ → ℕ
weight u zero = 0
weight u (suc n) = weight u n + bit u n

-- the number below 2 ^ k whose bit i is the last bit of f i
unfoldable pub pack : ℕ → (ℕ → ℕ) → ℕ
pack zero f = 0
pack (suc k) f = f k % 2 * 2 ^ k + pack k f
