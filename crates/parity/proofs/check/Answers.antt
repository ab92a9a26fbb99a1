-- `parity::check` meets its contract.
-- Assumes nothing.
use Rattle.stripe.proofs.Frame.{read_image}
use Rattle.laws.proofs.Handed.{handed}
use Rattle.parity.proofs.Calls.{check_refused, check_done}
use Rattle.parity.proofs.check.Goals as goal

pub returns-in_err-q : goal.returns-in_err-q
returns-in_err-q c = search (check_refused, c.in_err-q.was {u = tt}, handed _ _ c.from_residual.ensures.1)

pub wrong-requires : goal.wrong-requires
wrong-requires c = read_image _ _ _ c.read.ensures (c.in_ok-q.was {u = tt})

pub returns : goal.returns
returns c = search (check_done, c.in_ok-q.was {u = tt})
