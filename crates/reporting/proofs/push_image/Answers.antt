-- `reporting::push_image` meets its contract.
-- Assumes nothing.
use Rattle.std.proofs.Common.{arith, ap, length, ◌∙◌}
use Rattle.stripe.proofs.Frame.{read_image}
use Rattle.reporting.proofs.Laws.{lines_refused, never_unchecked, columns_few, lines_told}
use Rattle.reporting.proofs.Room.{stripe_fits, data_fit}
use Rattle.reporting.proofs.push_image.Goals as goal

pub returns-in-Err : goal.returns-in-Err
returns-in-Err c = c.push_refused.ensures ∙ lines_refused _ _ c.read.ensures c.in-Err.e c.in-Err.is

pub unreachable-requires : goal.unreachable-requires
unreachable-requires c = never_unchecked _ _ c.read.ensures _ c.in-Ok.is c.in_default.field-0 _ c.check.ensures c.in_default.is

pub push_data-requires : goal.push_data-requires
push_data-requires c = (
  read_image _ _ _ c.read.ensures c.in-Ok.is,
  omega (arith, ap length c.push_stripe.ensures, stripe_fits c.in-Ok.q, columns_few _ _ c.read.ensures _ c.in-Ok.is),
)

pub push_parities-requires : goal.push_parities-requires
push_parities-requires c = (
  omega (arith, columns_few _ _ c.read.ensures _ c.in-Ok.is),
  omega (arith, ap length c.push_stripe.ensures, stripe_fits c.in-Ok.q, columns_few _ _ c.read.ensures _ c.in-Ok.is, data_fit _ _ _ _ c.push_data.ensures),
)

pub returns : goal.returns
returns c = lines_told _ _ c.read.ensures _ c.in-Ok.is _ _ c.check.ensures c.in-Ok-check.is _ _ _ c.push_stripe.ensures c.push_data.ensures c.push_parities.ensures
