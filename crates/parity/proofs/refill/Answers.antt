-- `parity::refill` meets its contract.
-- Assumes nothing.
use Rattle.stripe.proofs.Frame.{read_image}
use Rattle.laws.proofs.Handed.{handed}
use Rattle.parity.proofs.Calls.{refill_refused, refill_done}
use Rattle.parity.proofs.refill.Goals as goal

pub returns-in_err-q : goal.returns-in_err-q
returns-in_err-q c = search (refill_refused, c.in_err-q.was {u = tt}, handed _ _ c.from_residual.ensures.1)

pub refill_all-requires : goal.refill_all-requires
refill_all-requires c = read_image _ _ _ c.read.ensures (c.in_ok-q.was {u = tt})

pub returns : goal.returns
returns c = search (refill_done, c.in_ok-q.was {u = tt})
