-- `parity::check_by` meets its contract.
-- Assumes nothing.
use Rattle.parity.proofs.Columns.{wrong_none, wrong_more, wrong_fits, wrong_end}
use Rattle.parity.proofs.check_by.Goals as goal

pub loop-j-init : goal.loop-j-init
loop-j-init g c = search wrong_none

pub overflow_add-word : goal.overflow_add-word
overflow_add-word g c = record { fits = search wrong_fits }

pub loop-j-preserved : goal.loop-j-preserved
loop-j-preserved g c = search wrong_more

pub returns : goal.returns
returns g c = search wrong_end
