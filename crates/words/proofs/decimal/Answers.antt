-- `words::decimal` meets its contract.
-- Assumes nothing.
use Rattle.std.proofs.Common.{◌∙◌, arith, rules}
use Rattle.words.proofs.Spelling.{no_word, nothing_behind, no_digit, too_large, one_more, all_behind}
use Rattle.words.proofs.decimal.Goals as goal

pub returns-then-is_empty : goal.returns-then-is_empty
returns-then-is_empty c = search (rules, no_word)

pub loop-c-init : goal.loop-c-init
loop-c-init c = (omega arith, search (rules, nothing_behind))

pub returns-in_err-d : goal.returns-in_err-d
returns-in_err-d c = c.from_residual.ensures ∙ search (rules, no_digit)

pub returns-in_err-checked_mul : goal.returns-in_err-checked_mul
returns-in_err-checked_mul c = c.from_residual-in_err-checked_mul.ensures ∙ search (rules, too_large)

pub returns-in_err-n : goal.returns-in_err-n
returns-in_err-n c = c.from_residual-in_err-n.ensures ∙ search (rules, too_large)

pub loop-c-preserved : goal.loop-c-preserved
loop-c-preserved c = (omega arith, search (rules, one_more))

pub returns : goal.returns
returns c = search (rules, all_behind)
