-- `engine::clear` meets its contract.
-- Assumes nothing.
use Rattle.laws.specs.Patch.{Patched}
use Rattle.engine.proofs.clear.Given as goal

abbrev pub invariant-loop-x : goal.invariant-loop-x
invariant-loop-x l = Patched l.initial.x-items l.x-items 0 l.x-index (λ o. 0)
