-- `pattern::collect` meets its contract.
-- Assumes nothing.
use Rattle.pattern.proofs.Collecting.{Collecting}
use Rattle.pattern.proofs.collect.Given as goal

abbrev pub invariant-loop-place : goal.invariant-loop-place
invariant-loop-place l = Collecting l.bits l.base l.initial.out l.out l.place-index l.rest
