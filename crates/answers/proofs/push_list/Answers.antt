-- `answers::push_list` meets its contract.
-- Assumes nothing.
use Rattle.std.proofs.Common.{◌++◌, ap, arith, length, ◌∙◌}
use lib.ListN.{length-append}
use Rattle.answers.proofs.Lists.{no_columns, all_columns, columns_short}
use Rattle.answers.specs.List.{columns_below}
use Rattle.answers.proofs.push_list.Goals as goal

pub returns-then-pattern-eq0-clause-text : goal.returns-then-pattern-eq0-clause-text
returns-then-pattern-eq0-clause-text c = c.push_str.ensures.bytes ∙ ap (λ s. c.args.line.now.bytes ++ s) (no_columns _ c.if-pattern-eq0.true)

pub returns-else-pattern-eq0-clause-text : goal.returns-else-pattern-eq0-clause-text
returns-else-pattern-eq0-clause-text c = c.push_columns.ensures ∙ ap (λ s. c.args.line.now.bytes ++ s) (all_columns _ 64 (omega arith) (omega arith) c.if-pattern-eq0.false)

pub returns-else-pattern-eq0-clause-upper_bound : goal.returns-else-pattern-eq0-clause-upper_bound
returns-else-pattern-eq0-clause-upper_bound c =
    omega (
      arith,
      ap length c.push_columns.ensures,
      length-append c.args.line.now.bytes (columns_below c.args.pattern 64),
      columns_short c.args.pattern 64 (omega arith),
    )
