-- `walk::walk` meets its contract.
-- Assumes nothing.
use denote.Param.{number}
use Rattle.walk.specs.contracts.walk.{ADD-type}
use Rattle.walk.proofs.Places.{At, RowsAdded}
use Rattle.walk.proofs.walk.Given as goal

abbrev pub invariant-loop : goal.invariant-loop
invariant-loop g l = At l.s l.run l.base l.p l.b l.d l.w l.f l.counter × RowsAdded (ADD-type (number g.row.ADD)) l.s l.initial.acc l.acc l.base l.p l.b l.d l.w l.counter
