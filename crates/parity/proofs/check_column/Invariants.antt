-- `parity::check_column` meets its contract.
-- Assumes nothing.
use Rattle.quotient.specs.Lanes.{Shows}
use Rattle.block.specs.Inner.{LanesRight}
use Rattle.parity.proofs.check_column.Given as goal

abbrev pub invariant-loop-l : goal.invariant-loop-l
invariant-loop-l l = Shows 0 l.bad (LanesRight l.image l.q l.j 0 l.l)
