-- `solver::lessen` meets its contract.
-- Assumes nothing.
use borrow.Author.Rules.{rules}
use Rattle.solver.proofs.Lists.{zip_more}
use Rattle.solver.proofs.Pass.{patched_divisible}
use Rattle.solver.proofs.lessen.Goals as goal

pub cleared-requires : goal.cleared-requires
cleared-requires c = (search patched_divisible, search rules, search rules)

pub loop-m-preserved : goal.loop-m-preserved
loop-m-preserved c = search zip_more
