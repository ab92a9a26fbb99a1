-- `rebuild::show_refusal` meets its contract.
-- Assumes nothing.
use Rattle.rebuild.proofs.Showing.{number_refused, number_none}
use Rattle.rebuild.proofs.show_refusal.Goals as goal

pub returns-in-Ok : goal.returns-in-Ok
returns-in-Ok c = search number_none

pub returns-in-Err : goal.returns-in-Err
returns-in-Err c = search number_refused
