-- `filling::put_revisions` meets its contract.
-- Assumes nothing.
use Rattle.filling.proofs.Putting.{revisions_put, no_revisions_put}
use Rattle.filling.proofs.put_revisions.Goals as goal

pub returns-then-n-q : goal.returns-then-n-q
returns-then-n-q c = search revisions_put

pub returns-else-n-q : goal.returns-else-n-q
returns-else-n-q c = search no_revisions_put
