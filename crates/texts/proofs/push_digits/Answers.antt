-- `texts::push_digits` meets its contract.
-- Assumes nothing.
use Rattle.std.proofs.Common.{◌++◌, arith, ap, ◌∙◌}
use Rattle.texts.proofs.Digits.{decimal_text}
use Rattle.texts.proofs.push_digits.Goals as goal

pub returns-clause-text : goal.returns-clause-text
returns-clause-text g c = c.push_str.ensures.bytes ∙ ap (λ s. c.args.line.now.bytes ++ s) (c.format.ensures.text ∙ decimal_text c.args.number (omega arith))
