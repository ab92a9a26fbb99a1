-- `words::count` meets its contract.
-- Assumes nothing.
use Rattle.std.proofs.Common.{rules, tests}
use Rattle.std.proofs.lemmas.Iterator.Consumers.{count_from_yields_List}
use Rattle.words.proofs.Cutting.{parts_yielded}
use Rattle.words.proofs.count.Goals as goal

pub returns : goal.returns
returns c =
    count_from_yields_List c.split.result _ c.count.ensures.ran
    (parts_yielded _ c.args.mark c.args.line.now c.split.ensures.rest c.split.ensures.done c.split.ensures.closure (λ x r q k. search (rules, tests)))
