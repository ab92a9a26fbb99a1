-- `block::check_block` meets its contract.
-- Assumes nothing.
use native.Mathlib.Omega.{arith}
use Rattle.block.proofs.Blocks.{finish_asked, block_shown}
use Rattle.block.proofs.check_block.Goals as goal

pub compare-requires : goal.compare-requires
compare-requires c = finish_asked _ _ _ _ _ _ _ _ _ c.requires (omega arith) c.parity_at.ensures.0 (omega arith)

pub returns : goal.returns
returns c = search block_shown
