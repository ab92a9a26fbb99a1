-- `engine::mask` meets its contract.
-- Assumes nothing.
use Rattle.engine.proofs.Laws.{mask_none, mask_fits, mask_more, mask_end}
use Rattle.engine.proofs.mask.Goals as goal

pub loop-t-init : goal.loop-t-init
loop-t-init c = search mask_none

pub overflow_add-m : goal.overflow_add-m
overflow_add-m c = record { fits = search mask_fits }

pub loop-t-preserved : goal.loop-t-preserved
loop-t-preserved c = search mask_more

pub returns : goal.returns
returns c = search mask_end
