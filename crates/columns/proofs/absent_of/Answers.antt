-- `columns::absent_of` meets its contract.
-- Assumes nothing.
use Rattle.columns.proofs.Pattern.{some_all, absent_is}
use Rattle.columns.proofs.absent_of.Goals as goal

pub overflow_sub-result : goal.overflow_sub-result
overflow_sub-result c = search some_all

pub nonzero_rem-result : goal.nonzero_rem-result
nonzero_rem-result c = search some_all

pub returns : goal.returns
returns c = search absent_is
