-- "All sums are XOR": bitwise exclusive or, under a name that stays shut.
-- Assumes nothing.
use Rattle.std.specs.Prelude.{ℕ}
use Rattle.std.specs.Int.Bits.{bit_xor}

infixl 65 ◌⊕◌
unfoldable pub ◌⊕◌ : ℕ → ℕ → ℕ
a ⊕ b = bit_xor a b
