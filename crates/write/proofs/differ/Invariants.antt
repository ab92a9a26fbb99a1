-- `write::differ` meets its contract.
-- Assumes nothing.
use Rattle.laws.specs.Patch.{Patched}
use Rattle.write.specs.Steps.{differed}
use Rattle.write.proofs.differ.Given as goal

abbrev pub invariant-loop-x : goal.invariant-loop-x
invariant-loop-x l = Patched l.initial.out l.out 0 l.x (differed l.image l.at l.strip)
