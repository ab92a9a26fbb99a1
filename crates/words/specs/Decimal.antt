-- "Numbers in decimal; words that are no number, numbers above 2^64 - 1 .. get one line of usage".
-- Assumes nothing.
use Rattle.std.specs.Prelude.{ℕ, ◌+◌, ◌-◌, ◌*◌, ◌^◌, Bool, true, false, ◌&&◌, Option, Some, None, List, [], ◌∷◌, leb, ltb}
use Rattle.laws.specs.Choose.{choose}

-- a byte is one of the ten digits, 48 to 57
abbrev pub is_digit : ℕ → Bool
is_digit c = leb 48 c && leb c 57

-- the digit that a byte is, if it is one
abbrev pub digit_of : ℕ → Option ℕ
digit_of c = choose (is_digit c) (Some (c - 48)) None

unfoldable pub all_digits : List ℕ → Bool
all_digits [] = true
all_digits (c ∷ s) = is_digit c && all_digits s

-- one digit or more, and nothing else
unfoldable pub is_numeral : List ℕ → Bool
is_numeral [] = false
is_numeral (c ∷ s) = all_digits (c ∷ s)

-- the number that n becomes when the digits of s are written behind it
unfoldable pub spelled : ℕ → List ℕ → ℕ
spelled n [] = n
spelled n (c ∷ s) = spelled (n * 10 + (c - 48)) s

-- the number that a word is, if it is one
unfoldable pub decimal_of : List ℕ → Option ℕ
decimal_of s = choose (is_numeral s && ltb (spelled 0 s) (2 ^ 64)) (Some (spelled 0 s)) None
