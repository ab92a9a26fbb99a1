-- The columns of a pattern as commands take them: "LOST a list of columns such as 0,3", or `-` for none.
-- Assumes nothing.
use Rattle.std.specs.Prelude.{ℕ, zero, suc, Bool, true, false, List, [], ◌∷◌, ◌++◌, eqb}
use Rattle.laws.specs.Bit.{bit}
use Rattle.laws.specs.Choose.{choose}
use Rattle.texts.specs.Text.{text, bytes}

-- a list that has nothing in it so far
abbrev pub is_none : List ℕ → Bool
is_none [] = true
is_none (c ∷ s) = false

-- what stands before a column: nothing before the first, else a comma
abbrev pub comma : Bool → List ℕ
comma first = choose first [] (bytes ",")

-- what a column adds to the list of a pattern: nothing if it is not in the pattern, else its number in decimal
unfoldable pub next_text : ℕ → ℕ → Bool → List ℕ
next_text w n first = choose (eqb (bit w n) 1) (comma first ++ text n) []

-- the columns below n of a pattern
unfoldable pub columns_below : ℕ → ℕ → List ℕ
columns_below w zero = []
columns_below w (suc n) = columns_below w n ++ next_text w n (is_none (columns_below w n))

-- the word that lists the columns of a pattern of 64 bits
unfoldable pub list_of : ℕ → List ℕ
list_of w = choose (eqb w 0) (bytes "-") (columns_below w 64)
