-- `file_by_file::meet` meets its contract.
-- Assumes nothing.
use Rattle.laws.proofs.Handed.{handed}
use Rattle.file_by_file.proofs.Steps.{meet_refused, few_columns, nearer, within, meet_ends, meet_goes}
use Rattle.file_by_file.proofs.meet.Goals as goal

pub returns-in_err-file : goal.returns-in_err-file
returns-in_err-file c = search (meet_refused, c.in_err-file.was {u = tt}, handed _ _ c.from_residual.ensures.1)

pub with_column-met-requires : goal.with_column-met-requires
with_column-met-requires c = search (few_columns, c.in_ok-file.was {u = tt})

pub returns-then-file-files : goal.returns-then-file-files
returns-then-file-files c = search (meet_ends, c.in_ok-file.was {u = tt})

pub loop-file-smaller : goal.loop-file-smaller
loop-file-smaller c = search (nearer, c.in_ok-file.was {u = tt})

pub loop-file-preserved : goal.loop-file-preserved
loop-file-preserved c = (search (within, c.in_ok-file.was {u = tt}), search (meet_goes, c.in_ok-file.was {u = tt}))
