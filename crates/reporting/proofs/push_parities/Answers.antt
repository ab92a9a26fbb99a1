-- `reporting::push_parities` meets its contract.
-- Assumes nothing.
use Rattle.std.proofs.Common.{◌++◌, arith, sym, ap, ◌∙◌}
use mathlib.Core.List.{append-nil}
use Rattle.texts.specs.Text.{text, spaced, bytes}
use Rattle.reporting.proofs.Laws.{parity_more, verdict_short}
use Rattle.reporting.proofs.Room.{parities_fit}
use Rattle.reporting.specs.Report.{lines}
use Rattle.reporting.proofs.push_parities.Goals as goal

pub loop-j-init : goal.loop-j-init
unfolding lines
loop-j-init c = sym (append-nil c.args.report.now.bytes)

pub push_str-requires : goal.push_str-requires
push_str-requires c = (omega arith, omega (arith, c.requires.1, parities_fit _ _ _ _ c.loop-j.invariant))

pub push_number-requires : goal.push_number-requires
push_number-requires c = (omega arith, omega (arith, c.requires.1, parities_fit _ _ _ _ c.loop-j.invariant, c.push_str.ensures.len))

pub push_str-requires-in-loop-j : goal.push_str-requires-in-loop-j
push_str-requires-in-loop-j c = (omega arith, omega (arith, c.requires.1, parities_fit _ _ _ _ c.loop-j.invariant, c.push_str.ensures.len, c.push_number.ensures.upper_bound))

pub push_str-requires-in-loop-j-2 : goal.push_str-requires-in-loop-j-2
push_str-requires-in-loop-j-2 c = (
  omega arith,
  omega (
    arith,
    c.requires.1,
    parities_fit _ _ _ _ c.loop-j.invariant,
    c.push_str.ensures.len,
    c.push_number.ensures.upper_bound,
    c.push_str-in-loop-j.ensures.len,
    verdict_short _ _ c.verdict.ensures,
  ),
)

pub push_str-requires-in-loop-j-3 : goal.push_str-requires-in-loop-j-3
push_str-requires-in-loop-j-3 c = (
  omega arith,
  omega (
    arith,
    c.requires.1,
    parities_fit _ _ _ _ c.loop-j.invariant,
    c.push_str.ensures.len,
    c.push_number.ensures.upper_bound,
    c.push_str-in-loop-j.ensures.len,
    c.push_str-in-loop-j-2.ensures.len,
    verdict_short _ _ c.verdict.ensures,
  ),
)

pub loop-j-preserved : goal.loop-j-preserved
loop-j-preserved c =
    c.push_str-in-loop-j-3.ensures.bytes
    ∙ ap (λ s. s ++ bytes "\n") (c.push_str-in-loop-j-2.ensures.bytes
    ∙ ap (λ s. s ++ c.verdict.result.now) (c.push_str-in-loop-j.ensures.bytes
    ∙ ap (λ s. s ++ bytes " ") (c.push_number.ensures.text
    ∙ ap (λ s. s ++ spaced (text c.loop-j.j)) (c.push_str.ensures.bytes ∙ ap (λ s. s ++ bytes "parity") c.loop-j.invariant))))
    ∙ parity_more _ _ _ _ c.verdict.ensures
