-- `quotient::differ` meets its contract.
-- Assumes nothing.
use Rattle.quotient.specs.Lanes.{Shows, RowStands}
use Rattle.quotient.proofs.differ.Given as goal

abbrev pub invariant-loop-x : goal.invariant-loop-x
invariant-loop-x l = Shows l.bad l.all (RowStands l.s l.row l.sum l.x)
