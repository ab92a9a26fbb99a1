-- What the functions of a quotient ask for and what they leave. They work on w lanes, that is w bytes of each strip; p rows of w bytes stand in `acc`.
-- Assumes nothing.
use Rattle.std.specs.Prelude.{ℕ, ◌+◌, ◌-◌, ◌*◌, ◌%◌, ◌≤◌, ◌<◌, List, ◌≢◌, ◌≡◌, get_or, length}
use Rattle.laws.specs.Part.{row_byte}
use Rattle.laws.specs.Sum.{sum}
use Rattle.laws.specs.Xor.{◌⊕◌}
use Rattle.algebra.specs.Prime.{Modulus}

-- row t, byte x of the quotient: its place is t + j, and the sum of all rows is added
unfoldable pub finished : List ℕ → ℕ → ℕ → ℕ → ℕ → ℕ → ℕ
finished acc p w j t x = row_byte acc w ((t + j) % p) x ⊕ sum p (λ q. row_byte acc w q x)

-- ---- the rows of a quotient

-- the sum of n rows, w bytes of each
pub record Summed (acc sum₁ : List ℕ) (n w : ℕ) : Type 0 where
  pub whole : length sum₁ ≡ 128
  pub bytes : (x : ℕ) → x < w → get_or sum₁ x 0 ≡ sum n (λ q. row_byte acc w q x)

-- n rows of w bytes stand in s, b bytes from one to the next
pub record Stand (s : List ℕ) (to n b w : ℕ) (v : ℕ → ℕ → ℕ) : Type 0 where
  pub bytes : (t x : ℕ) → t < n → x < w → get_or s (to + t * b + x) 0 ≡ v t x

-- s is now s': these rows were put there, and no other byte changed
pub record Laid (s s' : List ℕ) (to n b w : ℕ) (v : ℕ → ℕ → ℕ) : Type 0 where
  pub len : length s' ≡ length s
  pub rows : Stand s' to n b w v
  pub rest : (o : ℕ) → ((t x : ℕ) → t < n → x < w → o ≢ to + t * b + x) → get_or s' o 0 ≡ get_or s o 0

-- the rows of a quotient, and p - 1 places for them in s
pub record FinishAsked (s acc : List ℕ) (to p b j w : ℕ) : Type 0 where
  pub modulus : Modulus p
  pub shift : j < p
  pub strip : b ≤ 512
  pub fits : w ≤ b
  pub lanes : w ≤ 128
  pub inside : to + (p - 1) * b + w ≤ length s + b
  pub room : p * w ≤ length acc

-- ---- comparing

-- the first n bytes of s are those of a row with `sum₁` added
pub record RowStands (s row sum₁ : List ℕ) (n : ℕ) : Type 0 where
  pub bytes : (x : ℕ) → x < n → get_or s x 0 ≡ get_or row x 0 ⊕ get_or sum₁ x 0

-- r is 0 exactly where bad is 0 and R holds
pub record Shows (bad r : ℕ) (R : Type 0) : Type 0 where
  pub clean : bad ≡ 0 → R → r ≡ 0
  pub told : r ≡ 0 → (bad ≡ 0) × R
