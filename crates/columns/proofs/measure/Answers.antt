-- `columns::measure` meets its contract.
-- Assumes nothing.
use Rattle.columns.proofs.Calls.{column_unmeasured, column_measured}
use Rattle.columns.proofs.measure.Goals as goal

pub returns-then-n-q-clause-value : goal.returns-then-n-q-clause-value
returns-then-n-q-clause-value c = search column_unmeasured

pub returns-clause-value : goal.returns-clause-value
returns-clause-value c = search column_measured
