-- `present::Spot::touch` meets its contract.
-- Assumes nothing.
use borrow.Author.Rules.{rules}
use Rattle.present.proofs.Laws.{inverse_small, touch_small, touch_right}
use Rattle.present.proofs.Spot.touch.Goals as goal

pub times-requires : goal.times-requires
times-requires c = (search inverse_small, search rules, search rules, search rules)

pub returns : goal.returns
returns c = (search touch_right, search touch_small)
