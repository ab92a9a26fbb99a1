-- `columns::import` meets its contract.
-- Assumes nothing.
use Rattle.laws.proofs.Handed.{handed}
use Rattle.columns.proofs.Calls.{import_refused, first_there, first_admitted, all_accepted, import_is}
use Rattle.columns.proofs.import.Goals as goal

pub returns-in_err-met : goal.returns-in_err-met
returns-in_err-met c = search (import_refused, c.in_err-met.was {u = tt}, handed _ _ c.from_residual.ensures.1)

pub numbers-requires : goal.numbers-requires
numbers-requires c = search (first_there, c.in_ok-met.was {u = tt})

pub import_sound-requires : goal.import_sound-requires
import_sound-requires c = (search (first_admitted, c.in_ok-met.was {u = tt}), search (all_accepted, c.in_ok-met.was {u = tt}))

pub returns : goal.returns
returns c = search (import_is, c.in_ok-met.was {u = tt})
