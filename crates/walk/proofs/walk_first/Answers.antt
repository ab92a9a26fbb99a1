-- `walk::walk_first` meets its contract.
-- Assumes nothing.
use Rattle.walk.proofs.Places.{first_sums}
use Rattle.walk.proofs.walk_first.Goals as goal

pub returns : goal.returns
returns c = search first_sums
