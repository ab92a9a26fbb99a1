-- `answers::push_columns` meets its contract.
-- Assumes nothing.
use Rattle.std.proofs.Common.{◌++◌, arith, rules, refl, sym, ap, ◌∙◌}
use mathlib.Core.List.{append-nil}
use Rattle.answers.proofs.Lists.{next_fits, one_more, comma_next, none_more}
use Rattle.answers.specs.List.{columns_below}
use Rattle.texts.specs.Text.{text}
use Rattle.answers.proofs.push_columns.Goals as goal
use Rattle.answers.proofs.push_columns.Goals.{then-pattern-column-eq1, else-pattern-column-eq1}

pub loop-column-init : goal.loop-column-init
unfolding columns_below
loop-column-init c = (search rules, refl, sym (append-nil c.args.line.now.bytes))

pub push_str-requires : goal.push_str-requires
push_str-requires c = (
  omega arith,
  omega (arith, next_fits c.args.pattern c.loop-column.column _ _ _ (omega arith) (omega arith) c.loop-column.invariant.2 c.loop-column.invariant.1),
)

pub push_digits-requires : goal.push_digits-requires
push_digits-requires c = (
  omega arith,
  omega (
    arith,
    c.push_str.ensures.len,
    next_fits c.args.pattern c.loop-column.column _ _ _ (omega arith) (omega arith) c.loop-column.invariant.2 c.loop-column.invariant.1,
  ),
)

pub loop-column-preserved : goal.loop-column-preserved
loop-column-preserved c =
    elim c.if-pattern-column-eq1.branch [
      | then-pattern-column-eq1 w ↦ (
        search rules,
        rw w.comma-is (comma_next _ _ w.if-pattern-column-eq1.true c.loop-column-test.true),
        rw w.line-is (w.push_digits.ensures.text
            ∙ ap (λ t. t ++ text c.loop-column.column) (w.push_str.ensures.bytes ∙ ap (λ t. t ++ c.loop-column.comma.now) c.loop-column.invariant.2)
            ∙ one_more _ _ w.if-pattern-column-eq1.true c.loop-column-test.true _ _ c.loop-column.invariant.1),
      )
      | else-pattern-column-eq1 w ↦
          let e = none_more _ _ w.if-pattern-column-eq1.false in
          (search rules, rw w.comma-is (rw (← e) c.loop-column.invariant.1), rw (w.line-is, ← e) c.loop-column.invariant.2)
    ]
