-- `recovery::row` meets its contract.
-- Assumes nothing.
use borrow.Author.Rules.{rules}
use Rattle.recovery.proofs.Solving.{unit_system, row_solved}
use Rattle.recovery.proofs.row.Goals as goal

pub solve-requires : goal.solve-requires
solve-requires c = (search rules, search unit_system)

pub returns : goal.returns
returns c = search row_solved
