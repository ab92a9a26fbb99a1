-- `stripe::Params::admits` meets its contract.
-- Assumes nothing.
use Rattle.std.proofs.Common.{◌%◌, ◌&&◌, rules, tests, arith, refl, ltb, eqb}
use Rattle.std.proofs.lemmas.Grind.{common_steps}
use Rattle.std.proofs.lemmas.Iterator.{YieldsList-from_range}
use Rattle.std.proofs.lemmas.Iterator.Search.{any_from_yields_List}
use Rattle.stripe.proofs.Laws.{above_largest, admits_tested, below_three, has_factor}
use Rattle.stripe.proofs.Params.admits.Goals as goal

pub returns-then-p-le-LARGEST_PRIME : goal.returns-then-p-le-LARGEST_PRIME
unfolding has_factor
returns-then-p-le-LARGEST_PRIME c =
    admits_tested _ _ (omega arith) (omega arith)
    (any_from_yields_List (λ d. ltb d c.args.p && eqb (c.args.p % d) 0) _ _ _ c.any.ensures.ran (YieldsList-from_range 2 8 6 refl refl) (λ x b q k. search (rules, tests)))

pub returns-else-p-le-LARGEST_PRIME : goal.returns-else-p-le-LARGEST_PRIME
returns-else-p-le-LARGEST_PRIME c = grind (arith, common_steps, above_largest, below_three)
