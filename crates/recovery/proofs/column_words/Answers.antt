-- `recovery::column_words` meets its contract.
-- Assumes nothing.
use borrow.Author.Rules.{rules}
use Rattle.recovery.proofs.Sourcing.{from_lent, lost_part, lost_places, lost_room, ys_lent, ys_part, ys_room}
use Rattle.recovery.proofs.column_words.Goals as goal

pub slice_bounds-ys-end : goal.slice_bounds-ys-end
slice_bounds-ys-end c = search lost_room

pub slice_bounds-lost_data-end : goal.slice_bounds-lost_data-end
slice_bounds-lost_data-end c = search (rules, lost_part)

pub lost_data-requires : goal.lost_data-requires
lost_data-requires c = (search rules, search (rules, lost_places))

pub slice_bounds-ys-end-2 : goal.slice_bounds-ys-end-2
slice_bounds-ys-end-2 c = search ys_room

pub slice_bounds-words_by-end-2 : goal.slice_bounds-words_by-end-2
slice_bounds-words_by-end-2 c = search ys_part

pub words_by-requires : goal.words_by-requires
words_by-requires c = (search rules, search rules, search from_lent, search ys_lent)
