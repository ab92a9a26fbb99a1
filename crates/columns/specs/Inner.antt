-- What an inner function asks for.
-- Assumes nothing.
use Rattle.std.specs.Prelude.{ℕ, List, ◌≡◌, Ok}
use Rattle.stripe.specs.declared.Params.{Params}
use Rattle.file_by_file.specs.Files.{first_params, met_from}

-- files that were all accepted, the parameters of the first, and the columns that were met
pub record AcceptedFiles (s : List ℕ) (q : Params) (met : ℕ) : Type 0 where
  pub columns : met_from s 0 0 ≡ Ok met
  pub params : q ≡ first_params s
