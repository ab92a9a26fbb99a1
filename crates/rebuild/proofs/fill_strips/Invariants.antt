-- `rebuild::fill_strips` meets its contract.
-- Assumes nothing.
use Rattle.rebuild.specs.Inner.{ColumnFilled}
use Rattle.rebuild.proofs.fill_strips.Given as goal

abbrev pub invariant-loop-t : goal.invariant-loop-t
invariant-loop-t l = ColumnFilled l.initial.image l.image l.q l.lost l.n l.t
