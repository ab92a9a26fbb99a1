-- `rebuild::restore` meets its contract.
-- Assumes nothing.
use Rattle.laws.proofs.Handed.{handed}
use Rattle.rebuild.proofs.Answering.{restore_refused, restore_kept, restore_room, restore_asks, restore_done}
use Rattle.pattern.proofs.Asking.{asked_low}
use Rattle.rebuild.proofs.restore.Goals as goal

pub returns-in_err-q : goal.returns-in_err-q
returns-in_err-q c = search (restore_refused, c.in_err-q.was {u = tt}, handed _ _ c.from_residual.ensures.1)

pub is_lost-requires : goal.is_lost-requires
is_lost-requires c = search (asked_low, c.in_ok-q.was {u = tt})

pub slice_bounds-restore_strip-end : goal.slice_bounds-restore_strip-end
slice_bounds-restore_strip-end c = search (restore_room, c.in_ok-q.was {u = tt})

pub restore_strip-requires : goal.restore_strip-requires
restore_strip-requires c = search (restore_asks, c.in_ok-q.was {u = tt})

pub returns-then-is_lost : goal.returns-then-is_lost
returns-then-is_lost c = search (restore_done, c.in_ok-q.was {u = tt})

pub returns-else-is_lost : goal.returns-else-is_lost
returns-else-is_lost c = search (restore_kept, c.in_ok-q.was {u = tt})
