-- `columns::export` meets its contract.
-- Assumes nothing.
use Rattle.laws.proofs.Handed.{handed}
use Rattle.columns.proofs.Calls.{export_refused, export_is}
use Rattle.stripe.proofs.Frame.{read_image}
use Rattle.columns.proofs.export.Goals as goal

pub returns-in_err-q : goal.returns-in_err-q
returns-in_err-q c = search (export_refused, c.in_err-q.was {u = tt}, handed _ _ c.from_residual.ensures.1)

pub export_sound-requires : goal.export_sound-requires
export_sound-requires c = search (read_image, c.in_ok-q.was {u = tt})

pub returns : goal.returns
returns c = search (export_is, c.in_ok-q.was {u = tt})
