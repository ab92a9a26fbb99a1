-- `parity::put_data` meets its contract.
-- Assumes nothing.
use Rattle.parity.proofs.Heads.{data_put}
use Rattle.parity.proofs.put_data.Goals as goal

pub returns : goal.returns
returns c = search data_put
