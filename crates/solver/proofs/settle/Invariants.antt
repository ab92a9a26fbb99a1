-- `solver::settle` meets its contract.
-- Assumes nothing.
use mathlib.Core.Path.{◌≡◌}
use lib.ListN.{drop}
use Rattle.laws.specs.Patch.{Patched}
use Rattle.laws.specs.Xor.{◌⊕◌}
use Rattle.algebra.specs.Recovery.{row_of, settled_of}
use Rattle.solver.proofs.Lists.{zip_at}
use Rattle.solver.proofs.settle.Given as goal

abbrev pub invariant-loop-m : goal.invariant-loop-m
invariant-loop-m l = Patched l.initial.v l.v 0 l.m (zip_at (settled_of l.p l.x1 l.y1) l.ys l.initial.v) × (l.sum ⊕ row_of l.p l.y1 (drop l.m l.ys) (drop l.m l.initial.v) ≡ row_of l.p l.y1 l.ys l.initial.v)
