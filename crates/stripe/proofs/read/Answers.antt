-- `stripe::read` meets its contract. Assumes nothing.
use mathlib.Core.Path.{◌∙◌}
use native.Mathlib.Omega.{arith}
use Rattle.laws.proofs.Handed.{handed}
use Rattle.stripe.proofs.Readings.{none, count_1, short, sections_read, refused_read}
use Rattle.stripe.proofs.Frame.{checked_admitted}
use Rattle.stripe.proofs.read.Goals as goal

pub returns-then-image-lt2 : goal.returns-then-image-lt2
returns-then-image-lt2 c = none _ (omega arith)

pub returns-then-number-ne4 : goal.returns-then-number-ne4
returns-then-number-ne4 c = count_1 _ _ c.number.ensures.0 (omega arith) c.if-number-ne4.true

pub returns-then-image-lt10 : goal.returns-then-image-lt10
returns-then-image-lt10 c = short _ _ c.number.ensures.0 c.if-number-ne4.false (omega arith) (omega arith)

pub sections-requires : goal.sections-requires
sections-requires c = checked_admitted _ _ _ _ _ _ c.parameters.ensures (c.in_ok-parameters.was {u = tt})

pub returns : goal.returns
returns c = sections_read _ _ c.number.ensures.0 c.if-number-ne4.false (omega arith) _ c.parameters.ensures _ _ (c.in_ok-parameters.was {u = tt}) c.sections.ensures

pub returns-in_err-parameters : goal.returns-in_err-parameters
returns-in_err-parameters c =
    handed _ _ c.from_residual.ensures.1 ∙ refused_read _ _ c.number.ensures.0 c.if-number-ne4.false (omega arith) _ c.parameters.ensures _ (c.in_err-parameters.was {u = tt})
