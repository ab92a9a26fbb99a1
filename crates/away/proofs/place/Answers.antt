-- `away::place` meets its contract.
-- Assumes nothing.
use Rattle.away.proofs.Laws.{there_placed}
use Rattle.away.proofs.place.Goals as goal

pub returns : goal.returns
returns c = search there_placed
