-- `solver::settle` meets its contract.
-- Assumes nothing.
use borrow.Author.Rules.{rules}
use Rattle.solver.proofs.Pass.{part_in, part_low, patched_divisible, settle_end, settle_more, settle_sum}
use Rattle.solver.proofs.settle.Goals as goal

pub quotient-part-requires : goal.quotient-part-requires
quotient-part-requires c = search patched_divisible

pub times-requires : goal.times-requires
times-requires c = (search part_low, search rules, search part_in, search rules)

pub loop-m-preserved : goal.loop-m-preserved
loop-m-preserved c = (search settle_more, search settle_sum)

pub returns-clause-sum : goal.returns-clause-sum
returns-clause-sum c = search settle_end
