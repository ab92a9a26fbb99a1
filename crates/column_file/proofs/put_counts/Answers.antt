-- `column_file::put_counts` meets its contract.
-- Assumes nothing.
use Rattle.column_file.proofs.Writing.{counts_put}
use Rattle.column_file.proofs.put_counts.Goals as goal

pub returns : goal.returns
returns c =
    counts_put _ _ _ c.requires _ _ _ _ _ _ _ c.put_number-3.ensures c.strips_count_at.ensures.0 c.put_number-2.ensures c.carried.ensures.0 c.put_number.ensures c.flag.ensures.0
    c.put_opening.ensures
