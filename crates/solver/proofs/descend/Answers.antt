-- `solver::descend` meets its contract.
-- Assumes nothing.
use Rattle.solver.proofs.Pass.{descend_more}
use Rattle.solver.proofs.descend.Goals as goal

pub loop-i-preserved : goal.loop-i-preserved
loop-i-preserved c = search descend_more
