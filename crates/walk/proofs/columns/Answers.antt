-- `walk::columns` meets its contract.
-- Assumes nothing.
use mathlib.Core.Path.{refl}
use Rattle.walk.proofs.Places.{sums_more}
use Rattle.walk.proofs.columns.Goals as goal

pub loop-i-preserved : goal.loop-i-preserved
loop-i-preserved c = sums_more _ _ _ _ _ _ _ _ _ _ refl c.loop-i.invariant c.walk.ensures
