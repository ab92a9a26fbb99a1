-- `total::add_each` meets its contract.
-- Assumes nothing.
use Rattle.std.proofs.Common.{length}
use Rattle.std.specs.List.{SameFrom}
use Rattle.total.specs.Parts.{AddedBelow}
use Rattle.total.proofs.add_each.Given as goal

abbrev pub invariant-loop-i : goal.invariant-loop-i
invariant-loop-i g l =
    AddedBelow g.T.BitXorAssign.bitxor_assign_gives l.initial.to l.from l.to l.i
    × SameFrom l.initial.to l.to l.i
    × SameFrom l.initial.to l.to (length l.from)
