-- `rebuild::rebuild_within` meets its contract.
-- Assumes nothing.
use Rattle.rebuild.proofs.Answering.{rebuild_column, rebuild_many, rebuild_done, few_told}
use borrow.Author.Rules.{rules}
use Rattle.rebuild.proofs.rebuild_within.Goals as goal

pub returns-then-not-fits : goal.returns-then-not-fits
returns-then-not-fits c = search rebuild_column

pub returns-then-not-is_few : goal.returns-then-not-is_few
returns-then-not-is_few c = search rebuild_many

pub rebuild_lost-requires : goal.rebuild_lost-requires
rebuild_lost-requires c = (search rules, search few_told)

pub returns : goal.returns
returns c = search rebuild_done
