-- `column_file::carried` meets its contract.
-- Assumes nothing.
use native.Mathlib.Omega.{arith}
use Rattle.column_file.proofs.Columns.{carried_told, carried_small}
use Rattle.column_file.proofs.carried.Goals as goal

pub returns : goal.returns
returns c = let e = carried_told c.args.q c.args.n c.from.result c.from.ensures in (e, omega (arith, carried_small c.args.q c.args.n))
