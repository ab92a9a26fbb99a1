-- `walk::next` meets its contract.
-- Assumes nothing.
use Rattle.walk.proofs.Bytes.{next_around, next_below}
use Rattle.walk.proofs.next.Goals as goal

pub returns-then-f-d : goal.returns-then-f-d
returns-then-f-d c = search next_around

pub returns : goal.returns
returns c = search next_below
