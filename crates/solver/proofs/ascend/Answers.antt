-- `solver::ascend` meets its contract.
-- Assumes nothing.
use Rattle.solver.proofs.Pass.{ascend_more}
use Rattle.solver.proofs.ascend.Goals as goal

pub loop-i-preserved : goal.loop-i-preserved
loop-i-preserved c = search ascend_more
