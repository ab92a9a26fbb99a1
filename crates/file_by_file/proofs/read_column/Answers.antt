-- `file_by_file::read_column` meets its contract.
-- Assumes nothing.
use Rattle.file_by_file.proofs.Tests.{no_column, foreign, misflagged, twice, body_read}
use Rattle.file_by_file.proofs.read_column.Goals as goal

pub returns-then-n-q : goal.returns-then-n-q
returns-then-n-q c = search no_column

pub returns-then-not-is_alike : goal.returns-then-not-is_alike
returns-then-not-is_alike c = search foreign

pub returns-then-number-flag : goal.returns-then-number-flag
returns-then-number-flag c = search misflagged

pub returns-then-met-n-ne0 : goal.returns-then-met-n-ne0
returns-then-met-n-ne0 c = search twice

pub returns : goal.returns
returns c = search body_read
