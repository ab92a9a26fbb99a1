-- `recovery::data_words` meets its contract.
-- Assumes nothing.
use borrow.Author.Rules.{rules}
use Rattle.recovery.proofs.Extending.{row_asked, row_number, data_extended, data_are}
use Rattle.recovery.proofs.data_words.Goals as goal

pub row-requires : goal.row-requires
row-requires c = (search rules, search row_asked, search row_number)

pub extend-requires : goal.extend-requires
extend-requires c = (search rules, search data_extended)

pub returns : goal.returns
returns c = search data_are
