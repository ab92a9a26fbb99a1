-- `parity::refill_by` meets its contract.
-- Assumes nothing.
use Rattle.parity.proofs.Blocks.{columns_more, columns_end, image_column}
use Rattle.parity.proofs.refill_by.Goals as goal

pub loop-j-preserved : goal.loop-j-preserved
loop-j-preserved g c = (search image_column, search columns_more)

pub returns : goal.returns
returns g c = search columns_end
