-- Sums by XOR, and counts.
-- Assumes nothing.
use Rattle.std.specs.Prelude.{ℕ, zero, suc, ◌+◌}
use Rattle.laws.specs.Xor.{◌⊕◌}

-- m where b is not 0, else 0
unfoldable pub pick : ℕ → ℕ → ℕ
pick zero m = 0
pick (suc b) m = m

-- f 0 ⊕ f 1 ⊕ .. ⊕ f (n - 1)
unfoldable pub sum : ℕ → (ℕ → ℕ) → ℕ
sum zero f = 0
sum (suc n) f = sum n f ⊕ f n

-- f 0 + f 1 + .. + f (n - 1)
unfoldable pub total : ℕ → (ℕ → ℕ) → ℕ
total zero f = 0
total (suc n) f = total n f + f n
