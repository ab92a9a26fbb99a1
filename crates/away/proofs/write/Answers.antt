-- `away::write` meets its contract.
-- Assumes nothing.
use Rattle.laws.proofs.Handed.{handed}
use Rattle.away.proofs.Ways.{unread, read_p, read_admitted, no_column, no_row, no_width, no_few, read_target, within_column, few_told, sound_left}
use Rattle.away.proofs.write.Goals as goal

pub returns-in_err-q : goal.returns-in_err-q
returns-in_err-q c = search (unread, c.in_err-q.was {u = tt}, handed _ _ c.from_residual.ensures.1)

pub is_within-requires : goal.is_within-requires
is_within-requires c = search (read_admitted, c.in_ok-q.was {u = tt})

pub returns-then-not-is_within : goal.returns-then-not-is_within
returns-then-not-is_within c = search (no_column, c.in_ok-q.was {u = tt})

pub overflow_sub-q : goal.overflow_sub-q
overflow_sub-q c = search (read_p, c.in_ok-q.was {u = tt})

pub returns-then-row-q : goal.returns-then-row-q
returns-then-row-q c = search (no_row, c.in_ok-q.was {u = tt})

pub returns-then-strip-q : goal.returns-then-strip-q
returns-then-strip-q c = search (no_width, c.in_ok-q.was {u = tt})

pub is_few-requires : goal.is_few-requires
is_few-requires c = search (read_admitted, c.in_ok-q.was {u = tt})

pub returns-then-not-is_few : goal.returns-then-not-is_few
returns-then-not-is_few c = search (no_few, c.in_ok-q.was {u = tt})

pub write_sound-requires : goal.write_sound-requires
write_sound-requires c = record { target = search (read_target, within_column, c.in_ok-q.was {u = tt}); few = few_told _ _ _ c.is_few.ensures c.if-not-is_few.false }

pub returns : goal.returns
returns c = search (sound_left, c.in_ok-q.was {u = tt})
