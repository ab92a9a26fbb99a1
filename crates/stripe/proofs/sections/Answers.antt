-- `stripe::sections` meets its contract. Assumes nothing.
use native.Mathlib.Omega.{arith}
use Rattle.stripe.proofs.Readings.{cut, tail, count_2, count_3, count_4, whole}
use Rattle.stripe.proofs.sections.Goals as goal

pub returns-then-image-total : goal.returns-then-image-total
returns-then-image-total c = search cut

pub returns-then-image-total-2 : goal.returns-then-image-total-2
returns-then-image-total-2 c = search tail

pub returns-then-number-k : goal.returns-then-number-k
returns-then-number-k c = search count_2

pub returns-then-number-k-2 : goal.returns-then-number-k-2
returns-then-number-k-2 c = search count_3

pub returns-then-number-q : goal.returns-then-number-q
returns-then-number-q c = search count_4

pub returns : goal.returns
returns c =
    whole _ _ _ c.image_length-total.ensures.0 (omega arith) (omega arith)
    _ c.number.ensures.0 c.if-number-k.false
    _ _ c.revision_at.ensures.0 c.number-2.ensures.0 c.if-number-k-2.false
    _ _ c.data_at.ensures.0 c.number-3.ensures.0 c.if-number-q.false
