-- `engine::coefficient` meets its contract.
-- Assumes nothing.
use Rattle.engine.proofs.Laws.{bit_is}
use Rattle.engine.proofs.coefficient.Goals as goal

pub returns : goal.returns
returns c = search bit_is
