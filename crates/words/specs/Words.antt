-- The words of a line: what stands between its marks.
-- Assumes nothing.
use Rattle.std.specs.Prelude.{ℕ, Bool, true, false, ◌&&◌, List, [], ◌∷◌, eqb}
use Rattle.laws.specs.Choose.{choose}

-- a byte more at the front of the first word
unfoldable pub before_first : ℕ → List (List ℕ) → List (List ℕ)
before_first c [] = (c ∷ []) ∷ []
before_first c (w ∷ ws) = (c ∷ w) ∷ ws

-- the words of a line: each mark ends one and begins another, so there is one word more than marks
unfoldable pub parts : ℕ → List ℕ → List (List ℕ)
parts m [] = [] ∷ []
parts m (c ∷ s) = choose (eqb c m) ([] ∷ parts m s) (before_first c (parts m s))

-- two lists have the same bytes
abbrev pub same_bytes : List ℕ → List ℕ → Bool
same_bytes [] [] = true
same_bytes [] (y ∷ t) = false
same_bytes (x ∷ s) [] = false
same_bytes (x ∷ s) (y ∷ t) = eqb x y && same_bytes s t
