-- "Let g data columns be lost. They are found from the present data and the g lowest-numbered present parity columns; lost parity is then
-- worked out from the data. Other parity isn't consulted."
-- xs are the exponents of the consulted parity columns, ys those of the lost data columns, zs those of the present data columns.
-- Assumes nothing.
use Rattle.std.specs.Prelude.{ℕ, suc, ◌<◌, ◌≤◌, Bool, true, false, List, [], ◌∷◌, map, ◌≡◌, length, get_or, set, replicate}
use Rattle.laws.specs.Bit.{bit}
use Rattle.laws.specs.Part.{tab}
use Rattle.laws.specs.Xor.{◌⊕◌}
use Rattle.algebra.specs.Cauchy.{row, less, back, down, up, solve}
use Rattle.algebra.specs.Code.{plus, none}
use Rattle.algebra.specs.Divide.{over}
use Rattle.algebra.specs.Lane.{D, act}
use Rattle.algebra.specs.Word.{times_of, over_of, one}

-- ---- the Cauchy system with the ring's operations on words

module _ (p : ℕ) where
  -- the parity word w of x freed of the first lost column: ((x + y1) · w + (x1 + y1) · w1) / (x1 + x)
  unfoldable pub cleared_of : ℕ → ℕ → ℕ → ℕ → ℕ → ℕ
  cleared_of x1 y1 w1 x w = over_of p x1 x (times_of p x y1 w ⊕ times_of p x1 y1 w1)

  -- the word w of y in the system without the first lost column, brought into the whole one: (x1 + y) · w / (y1 + y)
  unfoldable pub settled_of : ℕ → ℕ → ℕ → ℕ → ℕ
  settled_of x1 y1 y w = over_of p y1 y (times_of p x1 y w)

  -- one parity word: the sum of the words s of the columns y, each divided by x + y
  unfoldable pub row_of : ℕ → List ℕ → List ℕ → ℕ
  row_of = row ◌⊕◌ 0 (times_of p) (over_of p)

  -- the parity words after the first, each freed of the first lost column
  unfoldable pub less_of : ℕ → ℕ → ℕ → List ℕ → List ℕ → List ℕ
  less_of = less ◌⊕◌ 0 (times_of p) (over_of p)

  -- the words of the lost columns after the first, from those of the system without it
  unfoldable pub back_of : ℕ → ℕ → List ℕ → List ℕ → List ℕ
  back_of = back ◌⊕◌ 0 (times_of p) (over_of p)

  -- the first pass: each parity word frees those after it of its lost column
  unfoldable pub down_of : List ℕ → List ℕ → List ℕ → List ℕ
  down_of = down ◌⊕◌ 0 (times_of p) (over_of p)

  -- the second pass: from the last lost column to the first
  unfoldable pub up_of : List ℕ → List ℕ → List ℕ → List ℕ
  up_of = up ◌⊕◌ 0 (times_of p) (over_of p)

  -- the words of the lost columns ys whose parity words at xs are given
  unfoldable pub solve_of : List ℕ → List ℕ → List ℕ → List ℕ
  solve_of = solve ◌⊕◌ 0 (times_of p) (over_of p)

  -- ---- the recovery matrix

  -- the unit vector v of g words: the one of the ring, e, in place v and 0 elsewhere
  unfoldable pub unit_of : ℕ → ℕ → List ℕ
  unit_of g v = set (replicate g 0) v (one p)

  -- the matrix's word in row u and column v: what lost column u takes of consulted parity v
  unfoldable pub entry_of : List ℕ → List ℕ → ℕ → ℕ → ℕ
  entry_of xs ys u v = get_or (solve_of xs ys (unit_of (length xs) v)) u 0

  -- what a lost column with the row ms of the matrix takes of each present data column zs
  abbrev pub words_of : List ℕ → List ℕ → List ℕ → List ℕ
  words_of xs ms zs = map (λ (z : ℕ). row_of z xs ms) zs

  -- what the lost parity x takes of each of g consulted columns, where the lost data columns ys take the words of `rows`
  unfoldable pub composed_of : ℕ → List ℕ → ℕ → List (List ℕ) → List ℕ
  composed_of x ys g rows = tab g (λ c. row_of x ys (map (λ (ms : List ℕ). get_or ms c 0) rows))

-- ---- lost and present columns

-- a list of Booleans says which columns are lost: the lost ones
abbrev pub lost : {A : Type 0} → List Bool → List A → List A
lost [] l = []
lost (b ∷ m) [] = []
lost (true ∷ m) (a ∷ l) = a ∷ lost m l
lost (false ∷ m) (a ∷ l) = lost m l

-- the present ones, with those past the end of m
abbrev pub kept : {A : Type 0} → List Bool → List A → List A
kept [] l = l
kept (b ∷ m) [] = []
kept (true ∷ m) (a ∷ l) = kept m l
kept (false ∷ m) (a ∷ l) = a ∷ kept m l

-- two lists combined element by element
abbrev pub with : {A : Type 0} → (A → A → A) → List A → List A → List A
with op [] l = []
with op (a ∷ k) [] = []
with op (a ∷ k) (b ∷ l) = op a b ∷ with op k l

-- exponents that rise, from lo on and below hi
abbrev pub Rising : ℕ → ℕ → List ℕ → Type 0
Rising lo hi [] = Unit {0}
Rising lo hi (x ∷ l) = (lo ≤ x) × (x < hi) × Rising (suc x) hi l

module _ (n : ℕ) where
  -- "Coefficients 0 to p-2 are stored": columns that are the same in these n = p - 1 coefficients
  abbrev pub Agree : List (ℕ → ℕ) → List (ℕ → ℕ) → Type 0
  Agree [] [] = Unit {0}
  Agree [] (g ∷ gs) = ⊥
  Agree (f ∷ fs) [] = ⊥
  Agree (f ∷ fs) (g ∷ gs) = ((i : ℕ) → i < n → f i ≡ g i) × Agree fs gs

  -- the sum over the consulted columns of word · column
  abbrev pub acting : List ℕ → List (ℕ → ℕ) → ℕ → ℕ
  acting [] Ps q = 0
  acting (m ∷ ms) [] q = 0
  acting (m ∷ ms) (P ∷ Ps) q = act n (bit m) P q ⊕ acting ms Ps q

  -- the consulted parities Cs at xs, each freed of the present data ss at zs
  abbrev pub freed : List ℕ → List (ℕ → ℕ) → List ℕ → List (ℕ → ℕ) → List (ℕ → ℕ)
  freed [] Cs zs ss = []
  freed (x ∷ xs) [] zs ss = []
  freed (x ∷ xs) (C ∷ Cs) zs ss = plus C (row plus none (D n) (over n) x zs ss) ∷ freed xs Cs zs ss
