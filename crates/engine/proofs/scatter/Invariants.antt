-- `engine::scatter` meets its contract.
-- Assumes nothing.
use Prim.Native.Nat.{◌-◌, ◌≤◌}
use lib.ListN.{length, take}
use Rattle.engine.specs.Strips.{Spread}
use Rattle.engine.proofs.scatter.Given as goal

abbrev pub invariant-loop-l : goal.invariant-loop-l
invariant-loop-l l = (l.l ≤ length l.strip) × Spread l.initial.s l.s (take l.l l.strip) l.at (length l.strip) l.rows l.mask

abbrev pub decreases-loop-l : goal.decreases-loop-l
decreases-loop-l l = length l.strip - l.l
