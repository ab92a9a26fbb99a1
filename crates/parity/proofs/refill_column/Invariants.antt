-- `parity::refill_column` meets its contract.
-- Assumes nothing.
use Rattle.parity.specs.Inner.{ColumnFilled}
use Rattle.parity.proofs.refill_column.Given as goal

abbrev pub invariant-loop-l : goal.invariant-loop-l
invariant-loop-l l = ColumnFilled l.initial.image l.image l.q l.j l.l
