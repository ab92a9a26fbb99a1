-- `recovery::parity_words` meets its contract.
-- Assumes nothing.
use borrow.Author.Rules.{rules}
use Rattle.recovery.proofs.Extending.{row_asked, parity_extended, parity_direct, parity_are}
use Rattle.recovery.proofs.parity_words.Goals as goal

pub parity_row-requires : goal.parity_row-requires
parity_row-requires c = (search rules, search row_asked, search rules)

pub extend-requires : goal.extend-requires
extend-requires c = (search rules, search parity_extended)

pub add_inverses-requires : goal.add_inverses-requires
add_inverses-requires c = let pre = c.requires in (search rules, parity_direct _ _ _ _ pre.1 _ _ c.parity_row.ensures _ c.extend.ensures pre.3)

pub returns : goal.returns
returns c = search parity_are
