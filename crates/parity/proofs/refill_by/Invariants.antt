-- `parity::refill_by` meets its contract.
-- Assumes nothing.
use Rattle.stripe.specs.Reading.{Image}
use Rattle.parity.specs.Inner.{ColumnsFilled}
use Rattle.parity.proofs.refill_by.Given as goal

abbrev pub invariant-loop-j : goal.invariant-loop-j
invariant-loop-j g l = Image l.image l.q × ColumnsFilled l.initial.image l.image l.q l.j
