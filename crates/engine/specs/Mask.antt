-- Masks: bit t of a mask says "row t takes part".
-- Assumes nothing.
use Rattle.std.specs.Prelude.{ℕ, ◌+◌, ◌-◌, ◌%◌}
use Rattle.laws.specs.Xor.{◌⊕◌}
use Rattle.laws.specs.Bit.{bit, pack}
use Rattle.algebra.specs.Word.{pred}

-- row t of a column takes part in coefficient q of w · column: by its own coefficient, and by coefficient p-1, which is the XOR of all rows
unfoldable pub takes_of : ℕ → ℕ → ℕ → ℕ → ℕ
takes_of p w q t = bit w ((q + (p - t)) % p) ⊕ bit w ((q + 1) % p)

-- the rows of a column that take part in coefficient q of w · column
unfoldable pub mask_of : ℕ → ℕ → ℕ → ℕ
mask_of p w q = pack (pred p) (takes_of p w q)
