-- `engine::copy_in` meets its contract.
-- Assumes nothing.
use Prim.Native.Nat.{◌*◌}
use lib.ListN.{get_or}
use Rattle.laws.specs.Patch.{Patched}
use Rattle.engine.proofs.copy_in.Given as goal

abbrev pub invariant-loop-i : goal.invariant-loop-i
invariant-loop-i l = Patched l.initial.s l.s l.at (l.i * 128) (λ o. get_or l.src o 0)
