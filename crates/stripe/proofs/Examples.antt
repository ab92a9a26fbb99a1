-- The examples of reading and of the parameters' test, by computation.
-- Assumes nothing.
use mathlib.Core.List.{◌∷◌, map}
use mathlib.Core.Path.{◌≡◌, refl}
use Rattle.laws.specs.Choose.{below}
use Rattle.algebra.specs.Prime.{odd_prime}
use Rattle.stripe.specs.Params.{admitted_prime, admitted_shape, admitted_strip, checked_of, answer_values}
use Rattle.stripe.specs.Reading.{sections_of, with_params, read_of}
use Rattle.stripe.specs.Examples.{reading_examples, params_examples}
use Rattle.refusal.specs.Number.{answer_number}

pub readings_right : map (λ e. let a = read_of e.0 in answer_number a ∷ answer_values a) reading_examples ≡ map (λ e. e.1) reading_examples
unfolding read_of with_params sections_of checked_of admitted_prime admitted_shape admitted_strip odd_prime below
readings_right = refl

pub params_right : map (λ e. let a = checked_of e.0.p e.0.k e.0.r e.0.b in answer_number a ∷ answer_values a) params_examples ≡ map (λ e. e.1) params_examples
unfolding checked_of admitted_prime admitted_shape admitted_strip odd_prime below
params_right = refl
