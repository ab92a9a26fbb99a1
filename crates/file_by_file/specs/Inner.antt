-- What the functions on files ask for.
-- Assumes nothing.
use Rattle.std.specs.Prelude.{ℕ, ◌+◌, ◌<◌, ◌≤◌, List, length}
use Rattle.laws.specs.Number.{u16}
use Rattle.stripe.specs.Params.{Admitted}
use Rattle.stripe.specs.declared.Params.{Params}
use Rattle.column_file.specs.File.{number_at, file_length}

-- section one of a file is there
pub record Head (s : List ℕ) (q : Params) (at n : ℕ) : Type 0 where
  pub admitted : Admitted q
  pub here : at + 14 ≤ length s
  pub number : n ≤ 65535

-- a place where the file of column n may be
pub record Start (s : List ℕ) (q : Params) (at n : ℕ) : Type 0 where
  pub admitted : Admitted q
  pub below : n < q.k + q.r
  pub here : at ≤ length s

-- the file of column n is there
pub record Whole (s : List ℕ) (q : Params) (at n : ℕ) : Type 0 where
  pub admitted : Admitted q
  pub below : n < q.k + q.r
  pub here : at + file_length q n ≤ length s

-- whole files from a place to the end
pub data Files (s : List ℕ) (q : Params) : ℕ → Type 0 where
  end : {at : ℕ} → length s ≤ at → Files s q at
  more : {at : ℕ} → Whole s q at (u16 s (at + number_at)) → Files s q (at + file_length q (u16 s (at + number_at))) → Files s q at
