-- `engine::gather` meets its contract.
-- Assumes nothing.
use native.Mathlib.Omega.{arith}
use Rattle.engine.proofs.Laws.{gather_none, gather_more, gather_skip, gather_end}
use Rattle.engine.proofs.gather.Goals.{then-coefficient-eq1, else-coefficient-eq1}
use Rattle.engine.proofs.gather.Goals as goal

pub loop-t-init : goal.loop-t-init
loop-t-init c = search gather_none

pub loop-t-preserved : goal.loop-t-preserved
loop-t-preserved c = elim c.if-coefficient-eq1.branch [ then-coefficient-eq1 w ↦ gather_more _ _ _ _ _ _ c.loop-t.invariant _ _ _ _ c.coefficient.ensures w.if-coefficient-eq1.true (omega arith) w.add.ensures w.out-is | else-coefficient-eq1 w ↦ search gather_skip ]

pub returns : goal.returns
returns c = search gather_end
