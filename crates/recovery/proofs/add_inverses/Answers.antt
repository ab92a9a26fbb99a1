-- `recovery::add_inverses` meets its contract.
-- Assumes nothing.
use Rattle.recovery.proofs.Solving.{inverse_asked, inverse_more}
use Rattle.recovery.proofs.add_inverses.Goals as goal

pub inverse-requires : goal.inverse-requires
inverse-requires c = search inverse_asked

pub loop-i-preserved : goal.loop-i-preserved
loop-i-preserved c = search inverse_more
