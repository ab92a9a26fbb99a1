-- `filling::clear_unmet` meets its contract.
-- Assumes nothing.
use Rattle.filling.proofs.Absent.{unmet_cleared, met_kept}
use Rattle.filling.proofs.clear_unmet.Goals as goal

pub returns-then-met-n-eq0 : goal.returns-then-met-n-eq0
returns-then-met-n-eq0 c = search unmet_cleared

pub returns-else-met-n-eq0 : goal.returns-else-met-n-eq0
returns-else-met-n-eq0 c = search met_kept
