-- `airsaffron::airsaffron_show` meets its contract.
-- Assumes nothing.
use Rattle.pattern.proofs.Asking.{asked_low, asked_cell}
use Rattle.airsaffron.proofs.Shows.{show_refused, show_lost, show_present}
use Rattle.airsaffron.proofs.airsaffron_show.Goals as goal

pub returns-in-Err : goal.returns-in-Err
returns-in-Err c = search show_refused

pub is_lost-requires : goal.is_lost-requires
is_lost-requires c = search asked_low

pub returns-then-is_lost : goal.returns-then-is_lost
returns-then-is_lost c = search show_lost

pub strip_at-requires : goal.strip_at-requires
strip_at-requires c = search asked_cell

pub returns : goal.returns
returns c = search show_present
