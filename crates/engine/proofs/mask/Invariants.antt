-- `engine::mask` meets its contract.
-- Assumes nothing.
use mathlib.Core.Path.{◌≡◌}
use Rattle.laws.specs.Bit.{pack}
use Rattle.engine.specs.Mask.{takes_of}
use Rattle.engine.proofs.mask.Given as goal

abbrev pub invariant-loop-t : goal.invariant-loop-t
invariant-loop-t l = l.m ≡ pack l.t (takes_of l.p l.w l.q)
