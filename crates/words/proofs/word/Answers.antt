-- `words::word` meets its contract.
-- Assumes nothing.
use Rattle.std.proofs.Common.{◌≡◌, ◌∙◌, List, [], ℕ, Option, Some, None, Bor, ap, refl, rules, tests}
use Rattle.std.proofs.lemmas.Iterator.Consumers.{nth_from_yields_List}
use Rattle.std.proofs.lemmas.Option.{unwrap_or-slice_get}
use Rattle.std.specs.Option.{option_map, unwrap_or}
use Rattle.words.proofs.Cutting.{parts_yielded}
use Rattle.words.proofs.word.Goals as goal

-- the bytes of the word, or of what stands for it
bytes_of : (r : Option (Bor (List ℕ))) (e : Bor (List ℕ)) → (unwrap_or r e).now ≡ unwrap_or (option_map (λ x. x.now) r) e.now
bytes_of None e = refl
bytes_of (Some x) e = refl

pub returns : goal.returns
returns c =
    let nth = nth_from_yields_List c.nth.result c.nth.new.self c.args.n c.nth.ensures.ran
    (parts_yielded _ c.args.mark c.args.line.now c.split.ensures.rest c.split.ensures.done c.split.ensures.closure (λ x r q k. search (rules, tests))) in
    ap (λ (x : Bor (List ℕ)). x.now) c.unwrap_or.ensures ∙ bytes_of c.nth.result _ ∙ ap (λ (o : Option (List ℕ)). unwrap_or o []) nth ∙ unwrap_or-slice_get _ c.args.n []
