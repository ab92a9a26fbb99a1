-- What the inner functions ask for, and what clearing leaves.
-- Assumes nothing.
use Rattle.std.specs.Prelude.{ℕ, zero, suc, ◌+◌, ◌*◌, ◌<◌, List, ◌≡◌, eqb, length, Ok}
use Rattle.laws.specs.Bit.{bit}
use Rattle.laws.specs.Choose.{choose}
use Rattle.stripe.specs.Layout.{column_length, image_length}
use Rattle.stripe.specs.Params.{Admitted}
use Rattle.stripe.specs.declared.Params.{Params}
use Rattle.column_file.specs.File.{carried}
use Rattle.file_by_file.specs.Files.{first_params, met_from}
use Rattle.file_by_file.specs.Inner.{Whole, Files}
use Rattle.filling.specs.Filled.{zeros, put_column}

-- the file of column n, and an image to put the column in
pub record OneReady (s t : List ℕ) (q : Params) (at n : ℕ) : Type 0 where
  pub whole : Whole s q at n
  pub room : length t ≡ image_length q

-- files, and an image to put the columns in
pub record AllReady (s t : List ℕ) (q : Params) : Type 0 where
  pub admitted : Admitted q
  pub files : Files s q 0
  pub room : length t ≡ image_length q

-- files whose columns were met, and an image to fill
pub record MetReady (s t : List ℕ) (q : Params) (met : ℕ) : Type 0 where
  pub columns : met_from s 0 0 ≡ Ok met
  pub params : q ≡ first_params s
  pub room : length t ≡ image_length q

-- an image, and a column of it
pub record Clearable (t : List ℕ) (q : Params) (n : ℕ) : Type 0 where
  pub admitted : Admitted q
  pub below : n < q.k + q.r
  pub room : length t ≡ image_length q

-- t with zeros in column n where it was not met; the same in the first n columns
abbrev pub cleared_one : ℕ → Params → ℕ → List ℕ → List ℕ
cleared_one n q met t = choose (eqb (bit met n) 0) (put_column q n (zeros (4 * carried q n)) (zeros (column_length q)) t) t

unfoldable pub cleared : ℕ → Params → ℕ → List ℕ → List ℕ
cleared zero q met t = t
cleared (suc n) q met t = cleared_one n q met (cleared n q met t)
