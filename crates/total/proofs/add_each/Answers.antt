-- `total::add_each` meets its contract.
-- Assumes nothing.
use Rattle.std.proofs.Common.{lt_of_lt_of_le}
use Rattle.total.proofs.add_each.Goals as goal

pub returns : goal.returns
returns g c = (
  (λ k d below within given. c.loop-i.invariant.0 k d (lt_of_lt_of_le within c.loop-i-test.false) within given),
  c.loop-i.invariant.2,
)
