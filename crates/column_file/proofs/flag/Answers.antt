-- `column_file::flag` meets its contract.
-- Assumes nothing.
use native.Mathlib.Omega.{arith}
use Rattle.column_file.proofs.Columns.{flag_told, flag_small}
use Rattle.column_file.proofs.flag.Goals as goal

pub returns : goal.returns
returns c = let e = flag_told c.args.q c.args.n c.from.result c.from.ensures in (e, omega (arith, flag_small c.args.q c.args.n))
