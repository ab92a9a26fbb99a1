-- `quotient::total` meets its contract.
-- Assumes nothing.
use native.Mathlib.Omega.{arith}
use Rattle.quotient.proofs.Quotients.{total_none, total_more}
use Rattle.quotient.proofs.total.Goals as goal

pub loop-t-init : goal.loop-t-init
loop-t-init c = total_none _ _ c.requires.0

pub loop-t-preserved : goal.loop-t-preserved
loop-t-preserved c = total_more _ _ _ _ _ _ _ c.loop-t.invariant c.requires.0 (omega arith) (omega arith) c.add.ensures
