-- `pattern::is_lost` meets its contract.
-- Assumes nothing.
use Rattle.pattern.proofs.Asking.{lost_tested}
use Rattle.pattern.proofs.is_lost.Goals as goal

pub returns : goal.returns
returns c = search lost_tested
