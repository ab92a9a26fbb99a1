-- `words::listed` meets its contract.
-- Assumes nothing.
use Rattle.std.proofs.Common.{◌≡◌, ◌<◌, ◌∷◌, [], ◌∙◌, length, get_or, length-append, rules, tests, arith}
use Rattle.std.proofs.lemmas.Iterator.Consumers.{YieldsList-at, YieldsList-turn, YieldsList-end}
use Rattle.words.proofs.Cutting.{parts_yielded}
use Rattle.words.proofs.Listing.{no_list, one_more, all_read}
use Rattle.words.specs.Words.{parts}
use Rattle.words.proofs.listed.Goals as goal
use Rattle.words.proofs.listed.Goals.{In-Some}

-- where the column of this turn stands
turn : (c : In-Some) → (length c.loop-column.yielded < length (parts 44 c.args.word.now))
    × (c.in-Some.column.now ≡ get_or (parts 44 c.args.word.now) (length c.loop-column.yielded) c.in-Some.column.now)
turn c =
    YieldsList-turn
    (YieldsList-at c.into_iter-column-iterator.ensures.into_iter_gives
    (parts_yielded _ 44 c.args.word.now c.split-column-items.ensures.rest c.split-column-items.ensures.done c.split-column-items.ensures.closure (λ x r q k. search (rules, tests))))
    c.loop-column.yielded _ c.loop-column.yielded_by _ _ c.in-Some.column c.in-Some.is c.next.ensures.steps

pub returns-in_err-decimal : goal.returns-in_err-decimal
returns-in_err-decimal c =
    let t = turn (goal.at.returns-in_err-decimal c).In-Some in
    c.from_residual.ensures ∙ no_list _ _ _ _ _ t.0 t.1 c.loop-column.invariant c.in_err-decimal.ensures

pub loop-column-preserved : goal.loop-column-preserved
loop-column-preserved c =
    let t = turn (goal.at.loop-column-preserved c).In-Some in
    rw (length-append c.loop-column.yielded (c.in-Some.column ∷ []), c.with_bit-pattern.ensures) (one_more _ _ _ _ _ t.0 t.1 c.loop-column.invariant _ c.in_ok-decimal.ensures)

pub returns : goal.returns
returns c =
    let seen = YieldsList-end
    (YieldsList-at c.into_iter-column-iterator.ensures.into_iter_gives
    (parts_yielded _ 44 c.args.word.now c.split-column-items.ensures.rest c.split-column-items.ensures.done c.split-column-items.ensures.closure (λ x r q k. search (rules, tests))))
    c.loop-column.yielded _ c.loop-column.yielded_by _ _ c.in-None.is c.next.ensures.steps in
    all_read _ (length c.loop-column.yielded) _ _ (omega (arith, seen.1)) c.loop-column.invariant
