-- `ring::spread` meets its contract.
-- Assumes nothing.
use mathlib.Core.Path.{◌≡◌}
use Rattle.algebra.specs.Divide.{evens}
use Rattle.ring.proofs.spread.Given as goal

abbrev pub invariant-loop-m : goal.invariant-loop-m
invariant-loop-m l = l.sum ≡ evens l.p l.c l.m
