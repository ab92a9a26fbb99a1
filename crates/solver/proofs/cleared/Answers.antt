-- `solver::cleared` meets its contract.
-- Assumes nothing.
use Rattle.solver.proofs.Pass.{sum_divisible}
use Rattle.solver.proofs.cleared.Goals as goal

pub quotient-requires : goal.quotient-requires
quotient-requires c = search sum_divisible
