-- `walk::step` meets its contract.
-- Assumes nothing.
use denote.Param.{number}
use Rattle.walk.specs.contracts.step.{ADD-type}
use Rattle.walk.proofs.Bytes.{Stepping}
use Rattle.walk.proofs.step.Given as goal

abbrev pub invariant-loop-x : goal.invariant-loop-x
invariant-loop-x g l = Stepping (ADD-type (number g.row.ADD)) l.src l.initial.run l.run l.initial.out l.out l.x
