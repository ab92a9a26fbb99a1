-- `present::Spot::touch_present` meets its contract.
-- Assumes nothing.
use Rattle.present.proofs.Laws.{touch_lost, touch_there}
use Rattle.present.proofs.Spot.touch_present.Goals as goal

pub returns-then-is_lost : goal.returns-then-is_lost
returns-then-is_lost c = search touch_lost

pub returns : goal.returns
returns c = search touch_there
