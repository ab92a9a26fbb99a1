-- `walk::step` meets its contract.
-- Assumes nothing.
use Rattle.walk.proofs.Bytes.{kept_on, kept_off, step_none, step_more, step_end}
use Rattle.walk.proofs.step.Goals.{then-this-ne0, else-this-ne0}
use Rattle.walk.proofs.step.Goals as goal

pub loop-x-init : goal.loop-x-init
loop-x-init g c = search step_none

pub loop-x-preserved : goal.loop-x-preserved
loop-x-preserved g c =
    step_more _ _ _ _ _ _ _ _ c.loop-x-test.true c.requires.1 c.requires.2 c.loop-x.invariant
    (elim c.if-this-ne0.branch [ then-this-ne0 w ↦ kept_on _ _ _ w.if-this-ne0.true w.kept-is | else-this-ne0 w ↦ kept_off _ _ _ w.if-this-ne0.false w.kept-is ])

pub returns : goal.returns
returns g c = search step_end
