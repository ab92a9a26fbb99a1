-- `parity::refill_column` meets its contract.
-- Assumes nothing.
use native.Mathlib.Omega.{arith}
use Rattle.parity.proofs.Blocks.{column_more}
use Rattle.parity.proofs.refill_column.Goals as goal

pub loop-l-preserved : goal.loop-l-preserved
loop-l-preserved c = column_more _ _ _ _ _ _ _ c.requires c.loop-l.invariant _ _ _ c.block_from.ensures c.refill_block.ensures (omega arith)

pub returns-2 : goal.returns-2
returns-2 c = column_more _ _ _ _ _ _ _ c.requires c.loop-l.invariant _ _ _ c.block_from.ensures c.refill_block.ensures (omega arith)
