-- `columns::import_sound` meets its contract.
-- Assumes nothing.
use Rattle.columns.proofs.Calls.{no_room, image_ready, import_done}
use Rattle.columns.proofs.import_sound.Goals as goal

pub returns-then-image-image_length : goal.returns-then-image-image_length
returns-then-image-image_length c = search no_room

pub fill-requires : goal.fill-requires
fill-requires c = search image_ready

pub returns : goal.returns
returns c = search import_done
