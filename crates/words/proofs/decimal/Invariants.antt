-- `words::decimal` meets its contract.
-- Assumes nothing.
use Rattle.std.proofs.Common.{◌≡◌, ◌<◌, ◌^◌, drop}
use Rattle.words.proofs.Spelling.{behind}
use Rattle.words.specs.Decimal.{decimal_of}
use Rattle.words.proofs.decimal.Given as goal

abbrev pub invariant-loop-c : goal.invariant-loop-c
invariant-loop-c l = (l.n < 2 ^ 64) × (behind l.n (drop l.c-index l.word) ≡ decimal_of l.word)
