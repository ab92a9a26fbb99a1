-- `recovery::extend` meets its contract.
-- Assumes nothing.
use Prim.Native.Nat.{ℕ, ◌<◌}
use mathlib.Core.Path.{◌≡◌}
use lib.ListN.{get_or}
use Rattle.algebra.specs.Recovery.{row_of}
use Rattle.recovery.proofs.extend.Given as goal

abbrev pub invariant-loop-i : goal.invariant-loop-i
invariant-loop-i l = (k : ℕ) → k < l.i → get_or l.rest k 0 ≡ row_of l.p (get_or l.zs k 0) l.xs l.row
