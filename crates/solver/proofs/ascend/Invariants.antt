-- `solver::ascend` meets its contract.
-- Assumes nothing.
use Rattle.solver.proofs.Pass.{Ascended}
use Rattle.solver.proofs.ascend.Given as goal

abbrev pub invariant-loop-i : goal.invariant-loop-i
invariant-loop-i l = Ascended l.p l.xs l.ys l.initial.v l.v l.i
