-- What the inner functions ask.
-- Assumes nothing.
use Rattle.std.specs.Prelude.{ℕ, ◌+◌, ◌<◌, ◌≤◌, true, List, ◌≡◌, get_or, length, take, drop}
use Rattle.algebra.specs.Cauchy.{Cross, Distinct, Off}
use Rattle.algebra.specs.Lane.{Apart}
use Rattle.solver.specs.System.{Words}
use Rattle.stripe.specs.Params.{Admitted}
use Rattle.stripe.specs.declared.Params.{Params}
use Rattle.pattern.specs.Pattern.{is_lost}

-- different exponents: as many of consulted parity columns as of lost data columns, with as many words
pub record Solvable (p : ℕ) (xs ys out : List ℕ) : Type 0 where
  pub same_x : length xs ≡ length out
  pub same_y : length ys ≡ length out
  pub distinct_x : Distinct (Apart p) xs
  pub distinct_y : Distinct (Apart p) ys
  pub cross : Cross (Apart p) xs ys

-- a word for each of the data columns zs, from which parity j is apart
pub record Direct (p j : ℕ) (zs out : List ℕ) : Type 0 where
  pub same : length zs ≡ length out
  pub off : Off (Apart p) j zs

-- exponents of which those after the g first are apart from these, and as many words, of which the g first are the ring's
pub record Extended (p : ℕ) (from : List ℕ) (g : ℕ) (out : List ℕ) : Type 0 where
  pub same : length from ≡ length out
  pub short : g ≤ length out
  pub cross : Cross (Apart p) (drop g from) (take g from)
  pub words : Words p (take g out)

-- the exponents of consulted parity columns, as many as data columns ys are lost, then those of present data columns, and a word for each
pub record Sourced (p : ℕ) (from ys out : List ℕ) : Type 0 where
  pub same : length from ≡ length out
  pub short : length ys ≤ length out
  pub distinct_x : Distinct (Apart p) (take (length ys) from)
  pub distinct_y : Distinct (Apart p) ys
  pub cross_lost : Cross (Apart p) (take (length ys) from) ys
  pub cross_present : Cross (Apart p) (drop (length ys) from) (take (length ys) from)

-- exponents of columns of the stripe
pub record Placeable (q : Params) (xs : List ℕ) : Type 0 where
  pub admitted : Admitted q
  pub low : (i : ℕ) → i < length xs → get_or xs i 0 < q.k + q.r

-- a lost column, and a word for each column that it is found from
pub record LostColumn (q : Params) (m n : ℕ) (out : List ℕ) : Type 0 where
  pub column : n < q.k + q.r
  pub away : is_lost m n ≡ true
  pub room : length out ≡ q.k
