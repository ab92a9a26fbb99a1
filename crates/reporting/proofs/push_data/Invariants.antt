-- `reporting::push_data` meets its contract.
-- Assumes nothing.
use Rattle.std.proofs.Common.{◌≡◌, ◌++◌}
use Rattle.reporting.specs.Report.{lines, data_line}
use Rattle.reporting.proofs.push_data.Given as goal

abbrev pub invariant-loop-i : goal.invariant-loop-i
invariant-loop-i l = (l.i-end ≡ l.q.k) × (l.report.bytes ≡ l.initial.report.bytes ++ lines l.i (data_line l.image))
