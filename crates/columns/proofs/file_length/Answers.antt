-- `columns::file_length` meets its contract.
-- Assumes nothing.
use Rattle.laws.proofs.Handed.{handed}
use Rattle.columns.proofs.Calls.{file_unmeasured, file_measured, read_admitted}
use Rattle.columns.proofs.file_length.Goals as goal

pub returns-in_err-q-clause-value : goal.returns-in_err-q-clause-value
returns-in_err-q-clause-value c = search (file_unmeasured, c.in_err-q.was {u = tt}, handed _ _ c.from_residual.ensures.1)

pub measure-requires : goal.measure-requires
measure-requires c = search (read_admitted, c.in_ok-q.was {u = tt})

pub returns-clause-value : goal.returns-clause-value
returns-clause-value c = search (file_measured, c.in_ok-q.was {u = tt})
