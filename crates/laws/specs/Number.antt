-- "All numbers are little-endian."
-- Assumes nothing.
use Rattle.std.specs.Prelude.{ℕ, ◌+◌, ◌*◌, ◌/◌, ◌%◌, ◌^◌, List, get_or}
use Rattle.laws.specs.Patch.{patch}

-- byte i of a number
abbrev pub byte : ℕ → ℕ → ℕ
byte v i = v / 256 ^ i % 256

-- the number of 16 bits at a place, and the number of 32 bits
abbrev pub u16 : List ℕ → ℕ → ℕ
u16 s at = get_or s at 0 + 256 * get_or s (at + 1) 0

abbrev pub u32 : List ℕ → ℕ → ℕ
u32 s at = u16 s at + 65536 * u16 s (at + 2)

-- s with the four bytes of v from at, and with the two bytes of v
unfoldable pub put32 : List ℕ → ℕ → ℕ → List ℕ
put32 s at v = patch s at 4 (byte v)

unfoldable pub put16 : List ℕ → ℕ → ℕ → List ℕ
put16 s at v = patch s at 2 (byte v)
