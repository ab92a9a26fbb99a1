-- `recovery::extend` meets its contract.
-- Assumes nothing.
use native.Mathlib.Omega.{arith}
use borrow.Author.Rules.{rules}
use Rattle.recovery.proofs.Extending.{extend_end, extend_row}
use Rattle.recovery.proofs.extend.Goals as goal

pub row_sum-requires : goal.row_sum-requires
row_sum-requires c =
    (search rules, extend_row _ _ _ _ c.requires.1 _ _ _ c.split_at.ensures.front c.split_at.ensures.back c.split_at_mut-row.ensures.front _ (omega arith))

pub returns : goal.returns
returns c =
    extend_end _ _ _ _ c.requires.1 _ _ _ c.split_at.ensures.front c.split_at.ensures.back c.split_at_mut-row.ensures.front _ (omega arith)
    (λ k h. c.loop-i.invariant k (omega arith))
