-- `file_by_file::with_column` meets its contract.
-- Assumes nothing.
use Rattle.file_by_file.proofs.Tests.{mark_shifted}
use Rattle.file_by_file.proofs.with_column.Goals as goal

pub returns : goal.returns
returns c = search mark_shifted
