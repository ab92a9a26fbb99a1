-- `reporting::push_data` meets its contract.
-- Assumes nothing.
use Rattle.std.proofs.Common.{◌++◌, arith, refl, sym, ap, ◌∙◌}
use mathlib.Core.List.{append-nil}
use Rattle.texts.specs.Text.{text, spaced, bytes, line_end}
use Rattle.reporting.proofs.Laws.{data_more}
use Rattle.reporting.proofs.Room.{data_fit}
use Rattle.reporting.specs.Report.{lines}
use Rattle.reporting.proofs.push_data.Goals as goal

pub loop-i-init : goal.loop-i-init
unfolding lines
loop-i-init c = (refl, sym (append-nil c.args.report.now.bytes))

pub push_str-requires : goal.push_str-requires
push_str-requires c = (omega arith, omega (arith, c.requires.1, data_fit _ _ _ _ c.loop-i.invariant.1))

pub push_number-requires : goal.push_number-requires
push_number-requires c = (omega arith, omega (arith, c.requires.1, data_fit _ _ _ _ c.loop-i.invariant.1, c.push_str.ensures.len))

pub push_last-requires : goal.push_last-requires
push_last-requires c = (omega arith, omega (arith, c.requires.1, data_fit _ _ _ _ c.loop-i.invariant.1, c.push_str.ensures.len, c.push_number.ensures.upper_bound))

pub loop-i-preserved : goal.loop-i-preserved
loop-i-preserved c = (
  c.loop-i.invariant.0,
  c.push_last.ensures.text
      ∙ ap (λ s. s ++ (spaced (text c.u32_at-revision.result) ++ line_end)) (c.push_number.ensures.text ∙ ap (λ s. s ++ spaced (text c.loop-i.i)) (c.push_str.ensures.bytes ∙ ap (λ s. s ++ bytes "data") c.loop-i.invariant.1))
      ∙ data_more _ _ _ _ _ c.revision_at.ensures.0 c.u32_at-revision.ensures,
)
