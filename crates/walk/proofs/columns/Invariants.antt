-- `walk::columns` meets its contract.
-- Assumes nothing.
use Rattle.walk.specs.Lanes.{Sums}
use Rattle.walk.proofs.columns.Given as goal

abbrev pub invariant-loop-i : goal.invariant-loop-i
invariant-loop-i l = Sums l.s l.acc l.from l.p l.b l.d l.w l.i
