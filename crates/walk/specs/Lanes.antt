-- What the functions of a walk ask for and what they leave. They work on w lanes, that is w bytes of each strip, and hold p rows of w bytes in `acc`.
-- Assumes nothing.
use Rattle.std.specs.Prelude.{ℕ, ◌+◌, ◌-◌, ◌*◌, ◌≤◌, ◌<◌, Bool, true, false, List, ◌≡◌, get_or, length}
use Rattle.laws.specs.Part.{row_byte}
use Rattle.laws.specs.Patch.{Patched}
use Rattle.laws.specs.Sum.{sum}
use Rattle.laws.specs.Xor.{◌⊕◌}
use Rattle.algebra.specs.Column.{lane}
use Rattle.algebra.specs.Prime.{Modulus}
use Rattle.algebra.specs.Walk.{walked}

-- byte x of the symbols of a column whose strips of b bytes stand from `base` on, one after the other
unfoldable pub symbols : List ℕ → ℕ → ℕ → ℕ → ℕ → ℕ
symbols s base b x u = get_or s (base + u * b + x) 0

-- what the walk by 1 + x^d over that column finds at place q
unfoldable pub found : List ℕ → ℕ → ℕ → ℕ → ℕ → ℕ → ℕ → ℕ
found s base n b d x q = walked n d (lane n (symbols s base b x)) q

-- the same of k columns one after the other, by 1 + x^d, 1 + x^(d+1) and so on, added up
unfoldable pub sum_found : List ℕ → ℕ → ℕ → ℕ → ℕ → ℕ → ℕ → ℕ → ℕ
sum_found s from n b d k x q = sum k (λ i. found s (from + i * (n * b)) n b (d + i) x q)

-- ---- one row

-- what stays of a byte that is added to, or where `add` is false put
abbrev pub kept : Bool → ℕ → ℕ
kept true y = y
kept false y = 0

-- byte x of src was added to the running byte, and this to byte x of out, or put there
pub record Stepped (add : Bool) (src run run' out out' : List ℕ) : Type 0 where
  pub running : Patched run run' 0 (length out) (λ x. get_or run x 0 ⊕ get_or src x 0)
  pub given : Patched out out' 0 (length out) (λ x. kept add (get_or out x 0) ⊕ (get_or run x 0 ⊕ get_or src x 0))

-- ---- a column

pub record WalkAsked (s acc : List ℕ) (base p b d w : ℕ) : Type 0 where
  pub modulus : Modulus p
  pub low : 1 ≤ d
  pub high : d < p
  pub strip : b ≤ 512
  pub lanes : w ≤ 128
  pub inside : base + (p - 1) * b + w ≤ length s + b
  pub room : p * w ≤ length acc

-- the row of the place where the walk starts stays, as it is added to or 0
pub record Begun (add : Bool) (acc : List ℕ) (p d w : ℕ) : Type 0 where
  pub stays : (x : ℕ) → x < w → row_byte acc w (p - 1 - d) x ≡ kept add (row_byte acc w (p - 1 - d) x)

-- what the walk found was added to each row, or put there
pub record Walked (add : Bool) (s acc acc' : List ℕ) (base p b d w : ℕ) : Type 0 where
  pub bytes : (q x : ℕ) → q < p → x < w → row_byte acc' w q x ≡ kept add (row_byte acc w q x) ⊕ found s base (p - 1) b d x q

-- the rows are what the walks over k columns found
pub record Sums (s acc : List ℕ) (from p b d w k : ℕ) : Type 0 where
  pub bytes : (q x : ℕ) → q < p → x < w → row_byte acc w q x ≡ sum_found s from (p - 1) b d k x q

-- the first of k columns was walked
pub record ColumnsAsked (s acc : List ℕ) (from p k b d w : ℕ) : Type 0 where
  pub modulus : Modulus p
  pub some : 1 ≤ k
  pub low : 1 ≤ d
  pub high : d + k ≤ p
  pub strip : b ≤ 512
  pub lanes : w ≤ 128
  pub inside : from + k * ((p - 1) * b) + w ≤ length s + b
  pub room : p * w ≤ length acc
  pub begun : Sums s acc from p b d w 1
