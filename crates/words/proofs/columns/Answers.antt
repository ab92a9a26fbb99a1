-- `words::columns` meets its contract.
-- Assumes nothing.
use Rattle.std.proofs.Common.{◌∙◌, arith}
use Rattle.words.proofs.Listing.{some_listed}
use Rattle.words.proofs.columns.Goals as goal

pub returns : goal.returns
returns c = c.listed.ensures ∙ some_listed c.args.word.now (λ z. grind arith) (grind arith)
