-- `file_by_file::read_file` meets its contract.
-- Assumes nothing.
use Rattle.stripe.proofs.Frame.{checked_admitted}
use native.Mathlib.Omega.{arith}
use Rattle.laws.proofs.Handed.{handed}
use Rattle.file_by_file.proofs.Tests.{no_file, no_six, short_head, column_read, bad_params}
use Rattle.file_by_file.proofs.read_file.Goals as goal

pub returns-then-left-lt2 : goal.returns-then-left-lt2
returns-then-left-lt2 c = search no_file

pub returns-then-number-ne-NUMBERS : goal.returns-then-number-ne-NUMBERS
returns-then-number-ne-NUMBERS c = search no_six

pub returns-then-left-lt-CARRIED_AT : goal.returns-then-left-lt-CARRIED_AT
returns-then-left-lt-CARRIED_AT c = search short_head

pub read_column-requires : goal.read_column-requires
read_column-requires c = record { admitted = checked_admitted _ _ _ _ _ _ c.parameters.ensures (c.in_ok-q.was {u = tt}); here = omega arith; number = omega arith }

pub returns : goal.returns
returns c = search (column_read, c.in_ok-q.was {u = tt})

pub returns-in_err-q : goal.returns-in_err-q
returns-in_err-q c = search (bad_params, c.in_err-q.was {u = tt}, handed _ _ c.from_residual.ensures.1)
