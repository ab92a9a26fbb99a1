-- `parity::check_column` meets its contract.
-- Assumes nothing.
use Prim.Native.Nat.{◌+◌}
use native.Mathlib.Omega.{arith}
use Rattle.parity.proofs.Blocks.{shown_more, flagged}
use Rattle.parity.proofs.check_column.Goals as goal
use Rattle.parity.proofs.check_column.Goals.{else-loop-l-test, then-loop-l-test+else-w-l-end}

pub returns : goal.returns
returns c =
    elim c.loop-l-test.branch [
      | else-loop-l-test w ↦ flagged _ _ _ c.loop-l.l _ c.requires.image.admitted (omega arith) c.loop-l.invariant _ _ c.from.ensures w.bad-is
      | then-loop-l-test+else-w-l-end w ↦
          flagged _ _ _ (c.loop-l.l + c.args.w) _ c.requires.image.admitted (omega arith)
          (shown_more _ _ _ _ _ _ _ _ c.loop-l.invariant w.check_block-bad.ensures w.block_from.ensures) _ _ c.from.ensures w.bad-is
    ]
