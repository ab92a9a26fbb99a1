-- The two moves on strips: gather XORs the rows that a mask names into one strip; scatter XORs one strip into the rows that a mask names.
-- Assumes nothing.
use Rattle.std.specs.Prelude.{ℕ, ◌+◌, ◌-◌, ◌*◌, ◌/◌, ◌%◌, ◌<◌, ◌≤◌, List, [], ◌∷◌, ◌≢◌, ◌≡◌, length, get_or}
use Rattle.laws.specs.Bit.{bit, weight}
use Rattle.laws.specs.Patch.{Patched}
use Rattle.laws.specs.Sum.{pick, sum}
use Rattle.laws.specs.Xor.{◌⊕◌}
use Rattle.algebra.specs.Word.{pred}
use Rattle.engine.specs.Mask.{mask_of}

-- ---- one strip

-- byte i of s, with f i added
unfoldable pub onto : List ℕ → (ℕ → ℕ) → ℕ → ℕ
onto s f i = get_or s i 0 ⊕ f i

-- n bytes at `to` that lie in s, and n bytes at `from` that lie in src
pub record Strip (s src : List ℕ) (to from n : ℕ) : Type 0 where
  pub there : to + n ≤ length s
  pub here : from + n ≤ length src

-- ---- the rows of one column

-- rows of strips as long as out that lie in src
pub record Rows (src out : List ℕ) (at rows : ℕ) : Type 0 where
  pub inside : at + rows * length out ≤ length src
  pub few : rows ≤ 60

-- byte i of the rows of b bytes at `at` that the mask names, of the first k rows, added up
unfoldable pub gathered : List ℕ → ℕ → ℕ → ℕ → ℕ → ℕ → ℕ
gathered src at b mask k i = sum k (λ t. pick (bit mask t) (get_or src (at + t * b + i) 0))

-- byte o of the rows of b bytes at `at`, with byte o % b of the strip added where the mask names row o / b
unfoldable pub scattered : List ℕ → ℕ → ℕ → ℕ → List ℕ → ℕ → ℕ
scattered s at b mask strip o = get_or s (at + o) 0 ⊕ pick (bit mask (o / b)) (get_or strip (o % b) 0)

-- s is now t: the strip was added to the rows at `at` that the mask names, and x is how many these are
pub record Scattered (s t strip : List ℕ) (at rows mask x : ℕ) : Type 0 where
  pub count : x ≡ weight mask rows
  pub bytes : Patched s t at (rows * length strip) (scattered s at (length strip) mask strip)

-- a run of lanes that lies in each of rows that begin b bytes apart, in the first at `from`
pub record Run (s run : List ℕ) (from b rows : ℕ) : Type 0 where
  pub inside : from + rows * b + length run ≤ length s + b
  pub few : rows ≤ 60
  pub within : length run ≤ b

-- s is now t: the run was added to the rows that the mask names, and every other byte is as it was
pub record Spread (s t run : List ℕ) (from b rows mask : ℕ) : Type 0 where
  pub len : length t ≡ length s
  pub inner : (q x : ℕ) → q < rows → x < length run → get_or t (from + q * b + x) 0 ≡ get_or s (from + q * b + x) 0 ⊕ pick (bit mask q) (get_or run x 0)
  pub other : (o : ℕ) → ((q x : ℕ) → q < rows → x < length run → o ≢ from + q * b + x) → get_or t o 0 ≡ get_or s o 0

-- ---- the rows of many columns

-- columns that lie in src, one for each word
pub record Columns (p q : ℕ) (src ats ws out : List ℕ) : Type 0 where
  pub small : p ≤ 61
  pub row : q < p
  pub same : length ats ≡ length ws
  pub inside : (k : ℕ) → k < length ats → get_or ats k 0 + (p - 1) * length out ≤ length src

-- byte i of row q of the sum of word · column over the columns at `ats`
unfoldable pub taken : ℕ → List ℕ → ℕ → ℕ → List ℕ → List ℕ → ℕ → ℕ
taken p src b q [] ws i = 0
taken p src b q (at ∷ ats) [] i = 0
taken p src b q (at ∷ ats) (w ∷ ws) i = gathered src at b (mask_of p w q) (pred p) i ⊕ taken p src b q ats ws i
