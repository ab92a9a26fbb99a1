-- `fronts::read_front` meets its contract.
-- Assumes nothing.
use Rattle.std.proofs.Common.{arith}
use Rattle.fronts.proofs.Joined.{front_more}
use Rattle.fronts.proofs.read_front.Goals as goal

pub loop-done-preserved : goal.loop-done-preserved
loop-done-preserved g c = (omega (arith, c.in_ok-n.ensures.bound.0), front_more _ _ _ _ _ _ _ _ c.loop-done.invariant.0 c.in_ok-n.ensures.bound.0 c.loop-done.invariant.1 c.in_ok-n.ensures.bytes.0)
