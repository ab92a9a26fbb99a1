-- `engine::takes` meets its contract.
-- Assumes nothing.
use Rattle.engine.proofs.Laws.{place_lt, takes_is}
use Rattle.engine.proofs.takes.Goals as goal

pub coefficient-requires : goal.coefficient-requires
coefficient-requires c = search place_lt

pub coefficient-requires-2 : goal.coefficient-requires-2
coefficient-requires-2 c = search place_lt

pub returns : goal.returns
returns c = search takes_is
