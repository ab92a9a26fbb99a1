-- `engine::gather` meets its contract.
-- Assumes nothing.
use lib.ListN.{length}
use Rattle.laws.specs.Patch.{Patched}
use Rattle.engine.specs.Strips.{gathered, onto}
use Rattle.engine.proofs.gather.Given as goal

abbrev pub invariant-loop-t : goal.invariant-loop-t
invariant-loop-t l = Patched l.initial.out l.out 0 (length l.initial.out) (onto l.initial.out (gathered l.src l.at (length l.initial.out) l.mask l.t))
