-- `rebuild::show` meets its contract.
-- Assumes nothing.
use Rattle.rebuild.proofs.Showing.{shown_refused, shown_refused_at, shown_lost, shown_lost_at, shown_end, shown_present, shown_present_at}
use Rattle.pattern.proofs.Asking.{asked_low, asked_cell, asked_space}
use Rattle.rebuild.proofs.show.Goals as goal

pub returns-in_default : goal.returns-in_default
returns-in_default c = record { bytes = search shown_refused; place = search shown_refused_at }

pub is_lost-requires : goal.is_lost-requires
is_lost-requires c = search asked_low

pub slice_bounds-result-end-then-is_lost : goal.slice_bounds-result-end-then-is_lost
slice_bounds-result-end-then-is_lost c = search asked_space

pub returns-then-is_lost : goal.returns-then-is_lost
returns-then-is_lost c = record { bytes = search shown_lost; place = search shown_lost_at }

pub strip_at-at-requires : goal.strip_at-at-requires
strip_at-at-requires c = search asked_cell

pub slice_bounds-result-end-2 : goal.slice_bounds-result-end-2
slice_bounds-result-end-2 c = search shown_end

pub returns : goal.returns
returns c = record { bytes = search shown_present; place = search shown_present_at }
