-- `engine::add_run` meets its contract.
-- Assumes nothing.
use native.Mathlib.Omega.{arith}
use borrow.Author.Rules.{rules}
use Rattle.engine.proofs.Lanes.{cut_lt, later_less, later_small, spreading_none, spreading_more, spreading_end, run_row, run_start, run_end, run_inside, run_whole}
use Rattle.engine.proofs.add_run.Goals as goal

pub loop-left-init : goal.loop-left-init
loop-left-init c = (search cut_lt, search spreading_none)

pub overflow_mul-at : goal.overflow_mul-at
overflow_mul-at c = record { fits = run_row _ _ _ _ _ _ _ _ _ c.requires c.loop-left.invariant.1 (omega arith) c.loop-left.invariant.0 c.first.ensures (search rules) }

pub overflow_add-at : goal.overflow_add-at
overflow_add-at c = record { fits = run_start _ _ _ _ _ _ _ _ _ c.requires c.loop-left.invariant.1 (omega arith) c.loop-left.invariant.0 c.first.ensures (search rules) }

pub overflow_add-at-in-loop-left : goal.overflow_add-at-in-loop-left
overflow_add-at-in-loop-left c = record { fits = run_end _ _ _ _ _ _ _ _ _ c.requires c.loop-left.invariant.1 (omega arith) c.loop-left.invariant.0 c.first.ensures (search rules) }

pub slice_bounds-add-end : goal.slice_bounds-add-end
slice_bounds-add-end c = run_inside _ _ _ _ _ _ _ _ _ c.requires c.loop-left.invariant.1 (omega arith) c.loop-left.invariant.0 c.first.ensures

pub add-requires : goal.add-requires
add-requires c = run_whole _ _ _ _ _ _ _ _ _ c.requires c.loop-left.invariant.1 (omega arith) c.loop-left.invariant.0 c.first.ensures _ (omega arith)

pub loop-left-smaller : goal.loop-left-smaller
loop-left-smaller c = search later_less

pub loop-left-preserved : goal.loop-left-preserved
loop-left-preserved c = (search later_small, spreading_more _ _ _ _ _ _ _ _ _ c.requires c.loop-left.invariant.1 (omega arith) c.loop-left.invariant.0 c.first.ensures _ _ _ (omega arith) c.add.ensures c.later-left.ensures)

pub returns : goal.returns
returns c = search spreading_end
