-- `solver::descend` meets its contract.
-- Assumes nothing.
use Rattle.solver.proofs.Pass.{Descended}
use Rattle.solver.proofs.descend.Given as goal

abbrev pub invariant-loop-i : goal.invariant-loop-i
invariant-loop-i l = Descended l.p l.xs l.ys l.initial.v l.v l.i
