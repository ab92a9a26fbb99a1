-- `parity::check_by` meets its contract.
-- Assumes nothing.
use mathlib.Core.Path.{◌≡◌}
use Rattle.parity.specs.Inner.{wrong_to}
use Rattle.parity.proofs.check_by.Given as goal

abbrev pub invariant-loop-j : goal.invariant-loop-j
invariant-loop-j g l = l.word ≡ wrong_to l.image l.q l.j
