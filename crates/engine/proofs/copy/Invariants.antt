-- `engine::copy` meets its contract.
-- Assumes nothing.
use lib.ListN.{get_or}
use Rattle.laws.specs.Patch.{Patched}
use Rattle.engine.proofs.copy.Given as goal

abbrev pub invariant-loop-i : goal.invariant-loop-i
invariant-loop-i l = Patched l.initial.s l.s 0 l.i (λ i. get_or l.src i 0)
