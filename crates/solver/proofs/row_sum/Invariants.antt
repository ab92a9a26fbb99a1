-- `solver::row_sum` meets its contract.
-- Assumes nothing.
use mathlib.Core.Path.{◌≡◌}
use lib.ListN.{length, drop}
use Rattle.laws.specs.Xor.{◌⊕◌}
use Rattle.algebra.specs.Recovery.{row_of}
use Rattle.solver.proofs.row_sum.Given as goal

abbrev pub invariant-loop-y : goal.invariant-loop-y
invariant-loop-y l = l.sum ⊕ row_of l.p l.x (drop (length l.yielded) l.ys) (drop (length l.yielded) l.v) ≡ row_of l.p l.x l.ys l.v
