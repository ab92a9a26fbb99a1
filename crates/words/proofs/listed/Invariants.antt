-- `words::listed` meets its contract.
-- Assumes nothing.
use Rattle.std.proofs.Common.{◌≡◌, length, drop}
use Rattle.words.specs.Columns.{named}
use Rattle.words.specs.Words.{parts}
use Rattle.words.proofs.listed.Given as goal

abbrev pub invariant-loop-column : goal.invariant-loop-column
invariant-loop-column l = named (drop (length l.yielded) (parts 44 l.word)) l.pattern ≡ named (parts 44 l.word) 0
