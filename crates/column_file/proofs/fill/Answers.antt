-- `column_file::fill` meets its contract.
-- Assumes nothing.
use Rattle.column_file.proofs.Writing.{file_filled}
use Rattle.column_file.proofs.fill.Goals as goal

pub returns : goal.returns
returns c = search file_filled
