-- `write::differ` meets its contract.
-- Assumes nothing.
use Rattle.write.proofs.Laws.{differ_more, differ_end}
use Rattle.write.proofs.differ.Goals as goal

pub loop-x-preserved : goal.loop-x-preserved
loop-x-preserved c = search differ_more

pub returns : goal.returns
returns c = search differ_end
