-- `file_by_file::read_body` meets its contract.
-- Assumes nothing.
use Rattle.file_by_file.proofs.Tests.{file_cut, file_whole, miscounted, file_read}
use Rattle.file_by_file.proofs.read_body.Goals as goal

pub returns-then-files-at : goal.returns-then-files-at
returns-then-files-at c = search file_cut

pub is_counted-requires : goal.is_counted-requires
is_counted-requires c = search file_whole

pub returns-then-not-is_counted : goal.returns-then-not-is_counted
returns-then-not-is_counted c = search miscounted

pub returns : goal.returns
returns c = search file_read
