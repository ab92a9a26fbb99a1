-- `reporting::push_input` meets its contract.
-- Assumes nothing.
use Rattle.std.proofs.Common.{arith, ◌∙◌}
use Rattle.reporting.proofs.Laws.{report_long, report_lines}
use Rattle.reporting.proofs.push_input.Goals as goal

pub returns-then-input-gt-LONGEST : goal.returns-then-input-gt-LONGEST
returns-then-input-gt-LONGEST c = c.push_refused.ensures ∙ report_long c.args.input.now (omega (arith, c.if-input-gt-LONGEST.true))

pub returns : goal.returns
returns c = c.push_image.ensures ∙ report_lines c.args.input.now (omega (arith, c.if-input-gt-LONGEST.false))
