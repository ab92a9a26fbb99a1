-- `quotient::put` meets its contract.
-- Assumes nothing.
use Rattle.quotient.proofs.Bytes.{put_more}
use Rattle.quotient.proofs.put.Goals as goal

pub loop-x-preserved : goal.loop-x-preserved
loop-x-preserved c = put_more _ _ _ _ _ c.loop-x-test.true c.loop-x.invariant
