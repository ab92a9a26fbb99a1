-- What is printed, as bytes: texts, and numbers "in decimal".
-- Assumes nothing.
use Prim.Native.Char.{code}
use Rattle.std.specs.Prelude.{ℕ, ◌+◌, ◌^◌, List, [], ◌∷◌, leb}
use Prim.Native.String.{String, [] as []ᵀ, ◌∷◌ as ◌∷ᵀ◌}
use Rattle.io.specs.Digits.{last_digits}
use Rattle.laws.specs.Choose.{choose}
use Rattle.laws.specs.Sum.{total}

-- how many digits a number of 64 bits has: one, and one more for each of 10, 100, .. 10^19 that it reaches
unfoldable pub places : ℕ → ℕ
places n = 1 + total 19 (λ i. choose (leb (10 ^ (i + 1)) n) 1 0)

-- a number in decimal
unfoldable pub text : ℕ → List ℕ
text n = last_digits 10 (places n) n

-- a text with a space before it
abbrev pub spaced : List ℕ → List ℕ
spaced s = 32 ∷ s

-- the bytes of a text
abbrev pub bytes : String → List ℕ
bytes []ᵀ = []
bytes (c ∷ᵀ s) = code c ∷ bytes s

-- the end of a line
abbrev pub line_end : List ℕ
line_end = bytes "\n"
