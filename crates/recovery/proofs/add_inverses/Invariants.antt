-- `recovery::add_inverses` meets its contract.
-- Assumes nothing.
use Rattle.laws.specs.Patch.{Patched}
use Rattle.solver.proofs.Lists.{zip_at}
use Rattle.recovery.proofs.Solving.{inverse_added}
use Rattle.recovery.proofs.add_inverses.Given as goal

abbrev pub invariant-loop-i : goal.invariant-loop-i
invariant-loop-i l = Patched l.initial.out l.out 0 l.i (zip_at (inverse_added l.p l.j) l.zs l.initial.out)
