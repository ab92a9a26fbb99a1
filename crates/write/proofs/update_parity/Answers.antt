-- `write::update_parity` meets its contract.
-- Assumes nothing.
use Rattle.write.proofs.Laws.{difference_moved}
use Rattle.write.proofs.update_parity.Goals as goal

pub returns : goal.returns
returns c = search difference_moved
