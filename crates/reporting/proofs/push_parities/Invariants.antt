-- `reporting::push_parities` meets its contract.
-- Assumes nothing.
use Rattle.std.proofs.Common.{◌≡◌, ◌++◌}
use Rattle.reporting.specs.Inner.{is_clear}
use Rattle.reporting.specs.Report.{lines, parity_line}
use Rattle.reporting.proofs.push_parities.Given as goal

abbrev pub invariant-loop-j : goal.invariant-loop-j
invariant-loop-j l = l.report.bytes ≡ l.initial.report.bytes ++ lines l.j (parity_line (is_clear l.wrong))
