-- `total::add_within` meets its contract.
-- Assumes nothing.
use Rattle.total.specs.Parts.{AddedWithin}
use Rattle.total.proofs.add_within.Given as goal

abbrev pub invariant-loop-i : goal.invariant-loop-i
invariant-loop-i g l = AddedWithin g.T.BitXorAssign.bitxor_assign_gives l.initial.s l.s l.to l.from l.i
