-- `recovery::place_all` meets its contract.
-- Assumes nothing.
use Rattle.recovery.proofs.Placing.{place_more}
use Rattle.recovery.proofs.place_all.Goals as goal

pub loop-x-preserved : goal.loop-x-preserved
loop-x-preserved c = search place_more
