-- `engine::clear` meets its contract.
-- Assumes nothing.
use native.Mathlib.Omega.{arith}
use Rattle.engine.proofs.Bytes.{clear_is}
use Rattle.engine.proofs.clear.Goals as goal

pub returns : goal.returns
returns c = clear_is _ _ _ _ _ _ c.requires (omega arith) c.loop-x.invariant (omega arith) (omega arith)
