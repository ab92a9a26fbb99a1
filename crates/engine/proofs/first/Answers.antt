-- `engine::first` meets its contract.
-- Assumes nothing.
use Rattle.engine.proofs.Lanes.{first_fits}
use Rattle.engine.proofs.first.Goals as goal

pub overflow_cast-result : goal.overflow_cast-result
overflow_cast-result c = search first_fits
