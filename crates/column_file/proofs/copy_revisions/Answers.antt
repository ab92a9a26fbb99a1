-- `column_file::copy_revisions` meets its contract.
-- Assumes nothing.
use Rattle.column_file.proofs.Writing.{revisions_copied, none_copied}
use Rattle.column_file.proofs.copy_revisions.Goals as goal

pub returns-then-n-q : goal.returns-then-n-q
returns-then-n-q c = search revisions_copied

pub returns-else-n-q : goal.returns-else-n-q
returns-else-n-q c = search none_copied
