-- `engine::cut` meets its contract.
-- Assumes nothing.
use Rattle.engine.proofs.Lanes.{one_some, cut_is}
use Rattle.engine.proofs.cut.Goals as goal

pub nonzero_rem-result : goal.nonzero_rem-result
nonzero_rem-result c = search one_some

pub returns : goal.returns
returns c = search cut_is
