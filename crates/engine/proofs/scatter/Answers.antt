-- `engine::scatter` meets its contract.
-- Assumes nothing.
use native.Mathlib.Omega.{arith}
use Rattle.engine.proofs.Lanes.{lanes_none, scatter_run, lanes_more, lanes_less, lanes_within, scatter_end}
use Rattle.engine.proofs.scatter.Goals as goal

pub loop-l-init : goal.loop-l-init
loop-l-init c = (omega arith, search lanes_none)

pub add_some-l-requires : goal.add_some-l-requires
add_some-l-requires c = search scatter_run

pub loop-l-smaller : goal.loop-l-smaller
loop-l-smaller c = lanes_less _ _ _ c.loop-l-test.true c.add_some-l.ensures.0 c.add_some-l.ensures.1

pub loop-l-preserved : goal.loop-l-preserved
loop-l-preserved c =
    let e = c.add_some-l.ensures in
    (lanes_within _ _ _ c.loop-l-test.true e.0, lanes_more _ _ _ _ _ _ _ _ _ c.loop-l.invariant.1 e.2 c.loop-l-test.true e.0)

pub returns : goal.returns
returns c = search scatter_end
