-- `filling::put_strips` meets its contract.
-- Assumes nothing.
use Rattle.filling.proofs.Putting.{taken_strips}
use Rattle.filling.proofs.put_strips.Goals as goal

pub copy_part-requires : goal.copy_part-requires
copy_part-requires c = search taken_strips
