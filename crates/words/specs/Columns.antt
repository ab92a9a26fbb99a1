-- "LOST a list of columns such as 0,3".
-- Assumes nothing.
use Rattle.std.specs.Prelude.{ℕ, min, Option, Some, None, List, [], ◌∷◌, eqb}
use Rattle.laws.specs.Bit.{bit, pack}
use Rattle.laws.specs.Choose.{choose}
use Rattle.words.specs.Words.{parts, same_bytes}
use Rattle.words.specs.Decimal.{decimal_of}

-- the pattern w with the bit of column n set; no stripe has a column 63, so a column above it counts as 63
unfoldable pub with_column : ℕ → ℕ → ℕ
with_column w n = pack 64 (λ i. choose (eqb i (min n 63)) 1 (bit w i))

-- a word that is no number makes no list
abbrev pub then_named : Option ℕ → (ℕ → Option ℕ) → Option ℕ
then_named (Some n) f = f n
then_named None f = None

-- the pattern w with the columns that the words name
unfoldable pub named : List (List ℕ) → ℕ → Option ℕ
named [] w = Some w
named (s ∷ ss) w = then_named (decimal_of s) (λ n. named ss (with_column w n))

-- the columns between the commas (byte 44); an empty word and `-` (byte 45) name none
abbrev pub columns_of : List ℕ → Option ℕ
columns_of s = choose (same_bytes s []) (Some 0) (choose (same_bytes s (45 ∷ [])) (Some 0) (named (parts 44 s) 0))
