-- `column_file::copy_part` meets its contract.
-- Assumes nothing.
use Rattle.column_file.proofs.Writing.{part_copied}
use Rattle.column_file.proofs.copy_part.Goals as goal

pub returns : goal.returns
returns c = search part_copied
