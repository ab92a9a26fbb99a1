-- `block::find` meets its contract.
-- Assumes nothing.
use Rattle.block.proofs.Blocks.{first_asked, columns_asked}
use Rattle.block.proofs.find.Goals as goal

pub walk_first-requires : goal.walk_first-requires
walk_first-requires c = search first_asked

pub columns-requires : goal.columns-requires
columns-requires c = search columns_asked
