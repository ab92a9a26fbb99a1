-- `walk::walk` meets its contract.
-- Assumes nothing.
use native.Mathlib.Omega.{arith}
use Rattle.walk.proofs.Places.{at_start, added_none, row_inside, step_asked, row_stepped, at_next, added_more, added_end}
use Rattle.walk.proofs.walk.Goals as goal

pub loop-init : goal.loop-init
loop-init g c = (at_start _ _ _ _ _ _ _ c.requires.asked, added_none _ _ _ _ _ _ _ c.requires.asked _ c.requires.begun)

pub slice_bounds-step-end : goal.slice_bounds-step-end
slice_bounds-step-end g c = row_inside _ _ _ _ _ _ _ c.requires.asked _ _ _ c.loop.invariant.0 c.loop-test.true

pub loop-preserved : goal.loop-preserved
loop-preserved g c =
    let A = c.requires.asked in
    let W = c.loop.invariant.0 in
    let S = row_stepped _ _ _ _ _ _ _ _ (step_asked _ _ _ _ _ _ _ A _ _ _ W _ c.loop-test.true c.next-f.ensures _ c.loop.auto.acc) (omega arith) (omega arith) _ _ _ c.step.ensures in
    (at_next _ _ _ _ _ _ _ A _ _ _ W _ c.loop-test.true c.next-f.ensures _ S.running, added_more _ _ _ _ _ _ _ A _ _ _ _ _ _ W c.loop-test.true c.next-f.ensures _ _ c.loop.invariant.1 S)

pub returns : goal.returns
returns g c = search added_end
