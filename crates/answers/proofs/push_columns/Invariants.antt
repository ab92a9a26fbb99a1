-- `answers::push_columns` meets its contract.
-- Assumes nothing.
use Rattle.std.proofs.Common.{◌≡◌, ◌++◌}
use Rattle.answers.specs.List.{comma, is_none, columns_below}
use Rattle.answers.proofs.push_columns.Given as goal
use denote.Shadow.{shadow}
use denote.Text.{Utf8}

abbrev pub invariant-loop-column : goal.invariant-loop-column
invariant-loop-column l =
    shadow (Utf8 l.comma)
    × (l.comma ≡ comma (is_none (columns_below l.pattern l.column)))
    × (l.line.bytes ≡ l.initial.line.bytes ++ columns_below l.pattern l.column)
