-- `present::move_parity` meets its contract.
-- Assumes nothing.
use Prim.Native.Nat.{◌*◌, ◌≤◌}
use Rattle.present.specs.Steps.{Shifted}
use Rattle.present.proofs.move_parity.Given as goal

abbrev pub invariant-loop-j : goal.invariant-loop-j
invariant-loop-j l = (l.count ≤ 60 * l.j) × Shifted l.initial.image l.image l.spot l.diff l.j l.count
