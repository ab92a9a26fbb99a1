-- What the functions on one file ask for.
-- Assumes nothing.
use Rattle.std.specs.Prelude.{ℕ, ◌+◌, ◌<◌, List, ◌≡◌, length}
use Rattle.stripe.specs.Params.{Admitted}
use Rattle.stripe.specs.Reading.{Image}
use Rattle.stripe.specs.declared.Params.{Params}
use Rattle.column_file.specs.File.{file_length}

-- a column of a stripe
pub record ColumnOf (q : Params) (n : ℕ) : Type 0 where
  pub admitted : Admitted q
  pub below : n < q.k + q.r

-- a column, and a slice of its file's length
pub record Empty (t : List ℕ) (q : Params) (n : ℕ) : Type 0 where
  pub column : ColumnOf q n
  pub room : length t ≡ file_length q n

-- an image, a column of it, and a slice of its file's length
pub record Asked (s t : List ℕ) (q : Params) (n : ℕ) : Type 0 where
  pub image : Image s q
  pub below : n < q.k + q.r
  pub room : length t ≡ file_length q n
