-- The ends of STALE and AHEAD, and a write half the circle away, by computation and by their numbers.
-- Assumes nothing.
use mathlib.Core.List.{◌∷◌, []}
use mathlib.Core.Path.{◌≡◌, refl}
use Rattle.laws.specs.Choose.{below}
use Rattle.algebra.specs.Prime.{odd_prime}
use Rattle.stripe.specs.Examples.{example_image}
use Rattle.stripe.specs.Params.{checked_of, admitted_prime, admitted_shape, admitted_strip}
use Rattle.stripe.specs.Reading.{read_of, with_params, sections_of}
use Rattle.revision.specs.Revision.{distance, judged, age_number, age_distance}
use Rattle.write.specs.Written.{write_of, write_read, write_sound, write_judged, written_numbers}

-- "STALE now covers d from 1 to 2^31 - 1. The exact half gets a refusal of its own with distance 0", and above is AHEAD
pub before_half_older : let g = judged 2147483647 0 in (age_number g ≡ 10) × (age_distance g ≡ 2147483647)
unfolding judged distance
before_half_older = (refl, refl)

pub half_unclear : let g = judged 2147483648 0 in (age_number g ≡ 17) × (age_distance g ≡ 0)
unfolding judged distance
half_unclear = (refl, refl)

pub past_half_newer : let g = judged 2147483649 0 in (age_number g ≡ 11) × (age_distance g ≡ 2147483647)
unfolding judged distance
past_half_newer = (refl, refl)

-- I, column 1, row 1, base 2147483655, half the circle from revision 7: UNCLEAR
pub half_written : written_numbers (write_of example_image 1 1 2147483655 (0 ∷ [])).answer ≡ 17 ∷ 0 ∷ 0 ∷ 0 ∷ []
unfolding write_of write_read write_sound write_judged read_of with_params sections_of checked_of admitted_prime admitted_shape admitted_strip odd_prime below judged distance
half_written = refl
