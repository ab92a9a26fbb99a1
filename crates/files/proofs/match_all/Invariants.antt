-- `files::match_all`: what its loop keeps: the bytes that were met, and behind them those that are left.
-- Assumes nothing.
use Rattle.std.proofs.Common.{◌≡◌, ℕ, List, ◌++◌}
use Rattle.std.specs.Io.KnownBytes.{Consumes}
use Rattle.files.proofs.match_all.Given as goal

abbrev pub invariant-loop-piece : goal.invariant-loop-piece
invariant-loop-piece g l =
    (l.piece-iterator.size ≡ 65536)
    × ((met : List ℕ) × Consumes (g.R.Read.remaining l.initial.file) (g.R.Read.remaining l.file) met × (l.bytes ≡ met ++ l.piece-iterator.rest.now))
