-- `ring::multiply` meets its contract.
-- Assumes nothing.
use mathlib.Core.Path.{◌≡◌}
use Rattle.ring.proofs.Laws.{product_to}
use Rattle.ring.proofs.multiply.Given as goal

abbrev pub invariant-loop-i : goal.invariant-loop-i
invariant-loop-i l = l.sum ≡ product_to l.p l.i l.u l.v
