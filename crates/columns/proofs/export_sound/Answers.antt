-- `columns::export_sound` meets its contract.
-- Assumes nothing.
use Rattle.columns.proofs.Calls.{no_column_there, no_file_room, file_asked, file_done}
use Rattle.columns.proofs.export_sound.Goals as goal

pub returns-then-n-q : goal.returns-then-n-q
returns-then-n-q c = search no_column_there

pub returns-then-file-length : goal.returns-then-file-length
returns-then-file-length c = search no_file_room

pub fill-requires : goal.fill-requires
fill-requires c = search file_asked

pub returns : goal.returns
returns c = search file_done
