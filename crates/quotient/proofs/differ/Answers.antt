-- `quotient::differ` meets its contract.
-- Assumes nothing.
use Rattle.quotient.proofs.Bytes.{differ_more}
use Rattle.quotient.proofs.differ.Goals as goal

pub loop-x-preserved : goal.loop-x-preserved
loop-x-preserved c = differ_more _ _ _ _ _ _ c.loop-x.invariant
