-- `engine::named` meets its contract.
-- Assumes nothing.
use Rattle.engine.proofs.Lanes.{named_is, named_fits}
use Rattle.engine.proofs.named.Goals as goal

pub overflow_cast-result : goal.overflow_cast-result
overflow_cast-result c = search named_fits

pub returns : goal.returns
returns c = search named_is
