-- `engine::take` meets its contract.
-- Assumes nothing.
use Rattle.engine.proofs.Laws.{Taking}
use Rattle.engine.proofs.take.Given as goal

abbrev pub invariant-loop-m : goal.invariant-loop-m
invariant-loop-m l = Taking l.p l.q l.src l.ats l.words l.initial.out l.out l.m
