-- `rebuild::fill_columns` meets its contract.
-- Assumes nothing.
use Rattle.rebuild.proofs.Filling.{filled_more, filled_end}
use Rattle.rebuild.proofs.fill_columns.Goals as goal

pub loop-n-preserved : goal.loop-n-preserved
loop-n-preserved c = search filled_more

pub returns : goal.returns
returns c = search filled_end
