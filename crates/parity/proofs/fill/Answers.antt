-- `parity::fill` meets its contract.
-- Assumes nothing.
use Rattle.parity.proofs.Calls.{unset_image, set_made}
use Rattle.parity.proofs.fill.Goals as goal

pub refill_all-requires : goal.refill_all-requires
refill_all-requires c = search unset_image

pub returns : goal.returns
returns c = search set_made
