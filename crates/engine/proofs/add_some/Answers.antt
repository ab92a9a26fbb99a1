-- `engine::add_some` meets its contract.
-- Assumes nothing.
use native.Mathlib.Omega.{arith}
use Rattle.engine.proofs.Lanes.{run_front}
use Rattle.engine.proofs.add_some.Goals as goal

pub add_block-requires : goal.add_block-requires
add_block-requires c = (omega arith, run_front _ _ _ _ _ _ _ c.requires c.in-Some.ensures.cases.same c.in-Some.ensures.cases.enough)

pub add_block-requires-in-Some-first_chunk : goal.add_block-requires-in-Some-first_chunk
add_block-requires-in-Some-first_chunk c = (omega arith, run_front _ _ _ _ _ _ _ c.requires c.in-Some-first_chunk.ensures.cases.same c.in-Some-first_chunk.ensures.cases.enough)
