-- `quotient::total` meets its contract.
-- Assumes nothing.
use Rattle.quotient.specs.Lanes.{Summed}
use Rattle.quotient.proofs.total.Given as goal

abbrev pub invariant-loop-t : goal.invariant-loop-t
invariant-loop-t l = Summed l.acc l.sum l.t l.w
