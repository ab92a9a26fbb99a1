-- `recovery::place_all` meets its contract.
-- Assumes nothing.
use Rattle.laws.specs.Patch.{Patched}
use Rattle.recovery.proofs.Placing.{place_at}
use Rattle.recovery.proofs.place_all.Given as goal

abbrev pub invariant-loop-x : goal.invariant-loop-x
invariant-loop-x l = Patched l.initial.xs l.xs 0 l.x-index (place_at l.q l.initial.xs)
