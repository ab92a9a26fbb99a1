-- `reporting::write_report` meets its contract.
-- Assumes nothing.
use Rattle.std.proofs.Common.{arith, ◌∙◌}
use Rattle.reporting.proofs.Fronts.{report_told}
use Rattle.reporting.proofs.write_report.Goals as goal

pub returns : goal.returns
returns g c = report_told _ _ _ _ _ _ _ (omega arith) c.in_ok-n.ensures.front (c.as_bytes.ensures.value ∙ c.as_str.ensures.value ∙ c.push_input.ensures) c.write_all.ensures.bytes
