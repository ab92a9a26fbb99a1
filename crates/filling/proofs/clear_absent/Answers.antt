-- `filling::clear_absent` meets its contract.
-- Assumes nothing.
use Rattle.filling.proofs.Absent.{cleared_none, turned}
use Rattle.filling.proofs.clear_absent.Goals as goal

pub loop-n-init : goal.loop-n-init
loop-n-init c = search cleared_none

pub loop-n-preserved : goal.loop-n-preserved
loop-n-preserved c = search turned
