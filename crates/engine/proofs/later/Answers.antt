-- `engine::later` meets its contract.
-- Assumes nothing.
use Rattle.engine.proofs.Lanes.{later_and}
use Rattle.engine.proofs.later.Goals as goal

pub returns : goal.returns
returns c = search later_and
