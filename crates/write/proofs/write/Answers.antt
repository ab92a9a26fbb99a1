-- `write::write` meets its contract.
-- Assumes nothing.
use borrow.Author.Rules.{rules}
use Rattle.laws.proofs.Handed.{handed}
use Rattle.write.proofs.Ways.{unread, read_p, read_accepted, no_column, no_row, no_width, read_target, handed_on, current}
use Rattle.present.specs.Steps.{Target}
use Rattle.write.proofs.Laws.{placed_long, none_left}
use Rattle.write.proofs.write.Goals as goal

pub returns-in_err-q : goal.returns-in_err-q
returns-in_err-q c = search (unread, c.in_err-q.was {u = tt}, handed _ _ c.from_residual.ensures.1)

pub returns-then-column-q : goal.returns-then-column-q
returns-then-column-q c = search (no_column, c.in_ok-q.was {u = tt})

pub overflow_sub-q : goal.overflow_sub-q
overflow_sub-q c = search (read_p, c.in_ok-q.was {u = tt})

pub returns-then-row-q : goal.returns-then-row-q
returns-then-row-q c = search (no_row, c.in_ok-q.was {u = tt})

pub returns-then-strip-q : goal.returns-then-strip-q
returns-then-strip-q c = search (no_width, c.in_ok-q.was {u = tt})

pub age_of-age-requires : goal.age_of-age-requires
age_of-age-requires c = (search (read_accepted, c.in_ok-q.was {u = tt}), search rules)

pub returns-then-not-is_current : goal.returns-then-not-is_current
returns-then-not-is_current c = search (handed_on, c.in_ok-q.was {u = tt})

pub place-count-requires : goal.place-count-requires
place-count-requires c = search (read_target, c.in_ok-q.was {u = tt})

pub settle-requires : goal.settle-requires
settle-requires c =
    let T : Target c.args.image.now (record { q = c.in_ok-q.q; lost = 0; column = c.args.column; row = c.args.row }) c.args.strip.now = search (read_target, c.in_ok-q.was {u = tt}) in
    (T.accepted.admitted, T.column, placed_long _ _ _ _ _ T c.place-count.ensures)

pub returns : goal.returns
returns c = search (current, none_left, c.in_ok-q.was {u = tt})
