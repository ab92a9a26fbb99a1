-- `rebuild::strip_at` meets its contract.
-- Assumes nothing.
use Rattle.rebuild.proofs.Showing.{parity_place}
use Rattle.rebuild.proofs.strip_at.Goals as goal

pub returns-else-n-q : goal.returns-else-n-q
returns-else-n-q c = search parity_place
