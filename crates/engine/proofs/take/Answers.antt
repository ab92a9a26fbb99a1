-- `engine::take` meets its contract.
-- Assumes nothing.
use Rattle.engine.proofs.Laws.{taking_none, taking_more, taking_end, taking_rows}
use Rattle.engine.proofs.take.Goals as goal

pub loop-m-init : goal.loop-m-init
loop-m-init c = search taking_none

pub gather-requires : goal.gather-requires
gather-requires c = search taking_rows

pub loop-m-preserved : goal.loop-m-preserved
loop-m-preserved c = search taking_more

pub returns : goal.returns
returns c = search taking_end
