-- `pattern::collect` meets its contract.
-- Assumes nothing.
use Rattle.pattern.proofs.Collecting.{collect_more}
use Rattle.pattern.proofs.collect.Goals as goal

pub loop-place-preserved : goal.loop-place-preserved
loop-place-preserved c = search collect_more
