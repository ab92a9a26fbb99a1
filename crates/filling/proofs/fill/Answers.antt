-- `filling::fill` meets its contract.
-- Assumes nothing.
use Rattle.filling.proofs.Absent.{ready_fits, cleared_fits, counted_ready, all_filled}
use Rattle.filling.proofs.fill.Goals as goal

pub clear_absent-requires : goal.clear_absent-requires
clear_absent-requires c = search ready_fits

pub put_counts-requires : goal.put_counts-requires
put_counts-requires c = search cleared_fits

pub put_files-requires : goal.put_files-requires
put_files-requires c = search counted_ready

pub returns : goal.returns
returns c = search all_filled
