-- `columns::files_length` meets its contract.
-- Assumes nothing.
use Rattle.laws.proofs.Handed.{handed}
use Rattle.columns.proofs.Calls.{files_unmeasured, files_measured, first_there, first_admitted}
use Rattle.columns.proofs.files_length.Goals as goal

pub returns-in_err-meet-clause-value : goal.returns-in_err-meet-clause-value
returns-in_err-meet-clause-value c = search (files_unmeasured, c.in_err-meet.was {u = tt}, handed _ _ c.from_residual.ensures.1)

pub numbers-requires : goal.numbers-requires
numbers-requires c = search (first_there, c.in_ok-meet.was {u = tt})

pub image_length-requires : goal.image_length-requires
image_length-requires c = search (first_admitted, c.in_ok-meet.was {u = tt})

pub returns-clause-value : goal.returns-clause-value
returns-clause-value c = search (files_measured, c.in_ok-meet.was {u = tt})
