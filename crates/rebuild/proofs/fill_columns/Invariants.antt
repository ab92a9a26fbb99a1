-- `rebuild::fill_columns` meets its contract.
-- Assumes nothing.
use Rattle.rebuild.proofs.Filling.{FilledBelow}
use Rattle.rebuild.proofs.fill_columns.Given as goal

abbrev pub invariant-loop-n : goal.invariant-loop-n
invariant-loop-n l = FilledBelow l.initial.image l.image l.q l.lost l.n
