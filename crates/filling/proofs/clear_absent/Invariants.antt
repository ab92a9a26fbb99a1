-- `filling::clear_absent` meets its contract.
-- Assumes nothing.
use mathlib.Core.Path.{◌≡◌}
use Rattle.filling.specs.Inner.{cleared}
use Rattle.filling.proofs.clear_absent.Given as goal

abbrev pub invariant-loop-n : goal.invariant-loop-n
invariant-loop-n l = l.image ≡ cleared l.n l.q l.met l.initial.image
