-- `quotient::finish` meets its contract.
-- Assumes nothing.
use Prim.Native.Nat.{◌+◌, ◌%◌}
use mathlib.Core.Path.{◌≡◌}
use Rattle.quotient.specs.Lanes.{Laid, finished}
use Rattle.quotient.proofs.finish.Given as goal

abbrev pub invariant-loop-t : goal.invariant-loop-t
invariant-loop-t l = (l.f ≡ (l.t + l.j) % l.p) × Laid l.initial.s l.s l.to l.t l.b l.w (finished l.acc l.p l.w l.j)
