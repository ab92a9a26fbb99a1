-- `filling::clear_column` meets its contract.
-- Assumes nothing.
use Rattle.filling.proofs.Putting.{column_cleared, strips_room}
use Rattle.filling.proofs.clear_column.Goals as goal

pub clear-requires : goal.clear-requires
clear-requires c = search strips_room

pub returns : goal.returns
returns c = search column_cleared
