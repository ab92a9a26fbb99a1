-- `recovery::words_by` meets its contract.
-- Assumes nothing.
use Rattle.recovery.proofs.Sourcing.{repair_modulus, column_sourced, column_number, off_lost, off_present, column_data, column_parity}
use Rattle.recovery.proofs.words_by.Goals as goal

pub data_words-requires : goal.data_words-requires
data_words-requires c = (search repair_modulus, search column_sourced, search column_number)

pub parity_words-requires : goal.parity_words-requires
parity_words-requires c = (search repair_modulus, search column_sourced, search off_lost, search off_present)

pub returns-then-n-q : goal.returns-then-n-q
returns-then-n-q c = search column_data

pub returns-else-n-q : goal.returns-else-n-q
returns-else-n-q c = search column_parity
