-- `rebuild::fill_strips` meets its contract.
-- Assumes nothing.
use Rattle.rebuild.proofs.Filling.{column_asked, column_more}
use Rattle.rebuild.proofs.fill_strips.Goals as goal

pub lost_strip-requires : goal.lost_strip-requires
lost_strip-requires c = search column_asked

pub loop-t-preserved : goal.loop-t-preserved
loop-t-preserved c = search column_more
