-- `column_file::column_at` meets its contract.
-- Assumes nothing.
use native.Mathlib.Omega.{arith}
use Rattle.column_file.proofs.Columns.{data_place, parity_place}
use Rattle.column_file.proofs.column_at.Goals as goal

pub returns-then-n-q : goal.returns-then-n-q
returns-then-n-q c = (search data_place, omega arith)

pub returns-else-n-q : goal.returns-else-n-q
returns-else-n-q c = (search parity_place, omega arith)
