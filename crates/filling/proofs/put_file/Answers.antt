-- `filling::put_file` meets its contract.
-- Assumes nothing.
use Rattle.filling.proofs.Putting.{file_put}
use Rattle.filling.proofs.put_file.Goals as goal

pub returns : goal.returns
returns c = search file_put
