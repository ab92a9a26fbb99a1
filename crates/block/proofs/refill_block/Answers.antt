-- `block::refill_block` meets its contract.
-- Assumes nothing.
use native.Mathlib.Omega.{arith}
use Rattle.block.proofs.Blocks.{finish_asked, block_filled}
use Rattle.block.proofs.refill_block.Goals as goal

pub finish-requires : goal.finish-requires
finish-requires c = finish_asked _ _ _ _ _ _ _ _ _ c.requires (omega arith) c.parity_at.ensures.0 (omega arith)

pub returns : goal.returns
returns c = search block_filled
