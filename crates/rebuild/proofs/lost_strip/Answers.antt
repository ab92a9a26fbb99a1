-- `rebuild::lost_strip` meets its contract.
-- Assumes nothing.
use Rattle.rebuild.proofs.Filling.{cleared_taken}
use Rattle.rebuild.proofs.lost_strip.Goals as goal

pub returns : goal.returns
returns c = search cleared_taken
