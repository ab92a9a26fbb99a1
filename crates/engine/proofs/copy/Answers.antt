-- `engine::copy` meets its contract.
-- Assumes nothing.
use mathlib.Core.Path.{refl, sym}
use native.Mathlib.Omega.{arith}
use Rattle.laws.proofs.Patch.{patch_none, patch_front, patch_end, patch_all}
use Rattle.engine.proofs.copy.Goals as goal

pub loop-i-init : goal.loop-i-init
loop-i-init c = search patch_none

pub loop-i-preserved : goal.loop-i-preserved
loop-i-preserved c = search patch_front

pub returns : goal.returns
returns c = patch_all _ _ _ _ (patch_end _ _ _ _ _ _ c.loop-i.invariant (omega (arith, c.loop-i.auto.i-end)) (omega (arith, c.loop-i-test.false))) (sym c.requires) (λ i h. refl)
