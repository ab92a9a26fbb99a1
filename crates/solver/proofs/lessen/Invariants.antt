-- `solver::lessen` meets its contract.
-- Assumes nothing.
use Rattle.laws.specs.Patch.{Patched}
use Rattle.algebra.specs.Recovery.{cleared_of}
use Rattle.solver.proofs.Lists.{zip_at}
use Rattle.solver.proofs.lessen.Given as goal

abbrev pub invariant-loop-m : goal.invariant-loop-m
invariant-loop-m l = Patched l.initial.v l.v 0 l.m (zip_at (cleared_of l.p l.x1 l.y1 l.w1) l.xs l.initial.v)
