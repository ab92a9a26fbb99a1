-- `parity::make` meets its contract.
-- Assumes nothing.
use Rattle.stripe.proofs.Frame.{checked_admitted}
use Rattle.laws.proofs.Handed.{handed}
use Rattle.parity.proofs.Calls.{make_checked_is, make_refused}
use Rattle.parity.proofs.make.Goals as goal

pub make_sound-requires : goal.make_sound-requires
make_sound-requires c = checked_admitted _ _ _ _ _ _ c.checked.ensures (c.in_ok-checked.was {u = tt})

pub returns : goal.returns
returns c = search (make_checked_is, c.in_ok-checked.was {u = tt})

pub returns-in_err-checked : goal.returns-in_err-checked
returns-in_err-checked c = search (make_refused, c.in_err-checked.was {u = tt}, handed _ _ c.from_residual.ensures.1)
