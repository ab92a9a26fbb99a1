-- `recovery::parity_row` meets its contract.
-- Assumes nothing.
use mathlib.Core.Path.{◌≡◌}
use lib.ListN.{length, replicate}
use borrow.Author.Rules.{rules}
use Rattle.recovery.proofs.Solving.{lost_direct, inverses_system, composed_solved}
use Rattle.recovery.proofs.parity_row.Goals as goal

pub add_inverses-requires : goal.add_inverses-requires
add_inverses-requires c = (search rules, search (rules, lost_direct))

pub solve-requires : goal.solve-requires
solve-requires c = (search rules, search (rules, inverses_system))

pub returns : goal.returns
returns c = let z : c.fill.new.self ≡ replicate (length c.args.out.now) 0 = search rules in search composed_solved
