-- `away::place_lost` meets its contract.
-- Assumes nothing.
use Rattle.away.proofs.Laws.{strip_ends, swapped, old_target, lost_placed}
use Rattle.away.proofs.place_lost.Goals as goal

pub slice_bounds-swap_with_slice-end : goal.slice_bounds-swap_with_slice-end
slice_bounds-swap_with_slice-end c = strip_ends _ _ _ c.requires.0 _ c.at-at.ensures.0

pub place-count-requires : goal.place-count-requires
place-count-requires c = search (old_target, swapped)

pub returns : goal.returns
returns c = search (lost_placed, swapped)
