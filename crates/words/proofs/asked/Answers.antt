-- `words::asked` meets its contract.
-- Assumes nothing.
use Rattle.std.proofs.Common.{◌≡◌, ◌∙◌, arith}
use Rattle.std.specs.Str.{IsUtf8}
use Rattle.words.proofs.Commands.{nothing, no_text}
use Rattle.words.specs.Words.{parts}
use Rattle.words.proofs.asked.Goals as goal

pub returns-in_err-ok : goal.returns-in_err-ok
returns-in_err-ok c =
    let h : ¬ IsUtf8 c.word.result.now = grind arith in
    rw c.from_residual.ensures (no_text (parts c.args.mark c.args.line.now) c.word.result.now c.word.ensures h)

pub returns-in_default-12 : goal.returns-in_default-12
returns-in_default-12 c =
    let h : c.in_ok-ok.field-0.now ≡ c.word.result.now = grind arith in
    nothing (parts c.args.mark c.args.line.now) c.in_ok-ok.field-0.now (h ∙ c.word.ensures) (grind arith) (grind arith) (grind arith) (grind arith) (grind arith) (grind arith)
    (grind arith) (grind arith) (grind arith) (grind arith)
