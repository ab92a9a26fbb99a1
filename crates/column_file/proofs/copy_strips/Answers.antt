-- `column_file::copy_strips` meets its contract.
-- Assumes nothing.
use Rattle.column_file.proofs.Writing.{asked_strips}
use Rattle.column_file.proofs.copy_strips.Goals as goal

pub copy_part-requires : goal.copy_part-requires
copy_part-requires c = search asked_strips
