-- `rebuild::restore_strip` meets its contract.
-- Assumes nothing.
use Rattle.rebuild.proofs.Filling.{strip_columns, strip_restored}
use Rattle.rebuild.proofs.restore_strip.Goals as goal

pub lost_strip-requires : goal.lost_strip-requires
lost_strip-requires c = search strip_columns

pub returns : goal.returns
returns c = search strip_restored
