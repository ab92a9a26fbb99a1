-- `file_by_file::is_counted` meets its contract.
-- Assumes nothing.
use Rattle.file_by_file.proofs.Tests.{one_off, well_counted}
use Rattle.file_by_file.proofs.is_counted.Goals as goal

pub returns-then-number-carried : goal.returns-then-number-carried
returns-then-number-carried c = search well_counted

pub returns-else-number-carried : goal.returns-else-number-carried
returns-else-number-carried c = search one_off
