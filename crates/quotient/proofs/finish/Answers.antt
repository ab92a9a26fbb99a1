-- `quotient::finish` meets its contract.
-- Assumes nothing.
use native.Mathlib.Omega.{arith}
use Rattle.quotient.proofs.Quotients.{shift_next, laid_more}
use Rattle.quotient.proofs.finish.Goals as goal

pub loop-t-preserved : goal.loop-t-preserved
loop-t-preserved c =
    let i = c.loop-t.invariant in (
      shift_next _ _ _ _ _ c.next-f.ensures i.0 c.loop-t-test.true,
      laid_more _ _ _ _ _ _ _ _ _ _ _ _ _ _ c.requires c.total-sum.ensures i.1 i.0 c.loop-t-test.true (omega arith) (omega arith) c.put.ensures,
    )
