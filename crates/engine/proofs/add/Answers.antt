-- `engine::add` meets its contract.
-- Assumes nothing.
use Rattle.laws.proofs.Patch.{patch_none, patch_end}
use Rattle.engine.proofs.Bytes.{add_more}
use Rattle.engine.proofs.add.Goals as goal

pub loop-i-init : goal.loop-i-init
loop-i-init c = search patch_none

pub loop-i-preserved : goal.loop-i-preserved
loop-i-preserved c = search add_more

pub returns : goal.returns
returns c = search (patch_end, c.loop-i.auto.i-end)
