-- `engine::add_run` meets its contract.
-- Assumes nothing.
use Prim.Native.Nat.{◌^◌, ◌<◌}
use Rattle.engine.proofs.Lanes.{Spreading}
use Rattle.engine.proofs.add_run.Given as goal

abbrev pub invariant-loop-left : goal.invariant-loop-left
invariant-loop-left l = (l.left < 2 ^ l.rows) × Spreading l.initial.s l.s l.run l.from l.b l.rows l.mask l.left

abbrev pub decreases-loop-left : goal.decreases-loop-left
decreases-loop-left l = l.left
