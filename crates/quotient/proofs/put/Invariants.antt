-- `quotient::put` meets its contract.
-- Assumes nothing.
use lib.ListN.{get_or}
use Rattle.laws.specs.Patch.{Patched}
use Rattle.laws.specs.Xor.{◌⊕◌}
use Rattle.quotient.proofs.put.Given as goal

abbrev pub invariant-loop-x : goal.invariant-loop-x
invariant-loop-x l = Patched l.initial.s l.s 0 l.x (λ o. get_or l.row o 0 ⊕ get_or l.sum o 0)
