-- `engine::copy_in` meets its contract.
-- Assumes nothing.
use mathlib.Core.Path.{◌∙◌, refl}
use native.Mathlib.Omega.{arith}
use Rattle.laws.proofs.Patch.{patch_end}
use Rattle.engine.proofs.Bytes.{copy_more, copy_end}
use Rattle.engine.proofs.copy_in.Goals as goal

pub loop-i-preserved : goal.loop-i-preserved
loop-i-preserved c =
    copy_more _ _ _ _ _ _ _ _ _ (omega arith) c.requires (omega (arith, c.loop-i-test.true)) (omega arith)
    (c.copy_from_slice-in-loop-i.ensures.after ∙ c.copy_from_slice.ensures.after) c.loop-i.invariant

pub returns-then-from-src : goal.returns-then-from-src
returns-then-from-src c =
    copy_end _ _ _ _ _ c.requires refl
    (copy_more _ _ _ _ _ _ _ _ _ (omega arith) c.requires (omega arith) (omega arith) c.copy.ensures (patch_end _ _ _ _ _ _ c.loop-i.invariant (omega (arith, c.loop-i.auto.i-end)) (omega (arith, c.loop-i-test.false))))

pub returns-else-from-src : goal.returns-else-from-src
returns-else-from-src c =
    copy_end _ _ _ _ _ c.requires refl (patch_end _ _ _ _ _ _ c.loop-i.invariant (omega (arith, c.loop-i.auto.i-end)) (omega (arith, c.loop-i-test.false, c.if-from-src.false)))
