-- Writes to the image I while columns are lost, by computation.
-- Assumes nothing.
use Prim.Native.Nat.{ℕ}
use mathlib.Core.List.{◌∷◌, [], List}
use mathlib.Core.Path.{◌≡◌, refl}
use Rattle.laws.specs.Bit.{weight, bit, pack}
use Rattle.laws.specs.Choose.{below}
use Rattle.laws.specs.Number.{put32}
use Rattle.laws.specs.Part.{put, tab}
use Rattle.laws.specs.Patch.{patch}
use Rattle.laws.specs.Sum.{total, sum, pick}
use Rattle.laws.specs.Xor.{◌⊕◌}
use Rattle.algebra.specs.Column.{coefficient, lane}
use Rattle.algebra.specs.Divide.{quot, inv, evens, turn, gap}
use Rattle.algebra.specs.Lane.{D, act}
use Rattle.algebra.specs.Prime.{odd_prime}
use Rattle.algebra.specs.Word.{over_of, times_of, lane_of}
use Rattle.stripe.specs.Examples.{example_image}
use Rattle.stripe.specs.Params.{checked_of, admitted_prime, admitted_shape, admitted_strip}
use Rattle.stripe.specs.Reading.{read_of, with_params, sections_of}
use Rattle.block.specs.Touches.{touch_word}
use Rattle.pattern.specs.Pattern.{pattern_fits, few_lost, consulted, lost_exponents, present_exponents}
use Rattle.rebuild.specs.Lost.{whole_data, recovered, consulted_lanes, present_lanes}
use Rattle.revision.specs.Revision.{distance, judged, renewed}
use Rattle.write.specs.Written.{written_numbers}
use Rattle.present.specs.Present.{present_word, present_moved, present_placed, present_written, present_count}
use Rattle.away.specs.Away.{away_of, away_read, away_sound, away_judged, away_written, away_difference}

-- I with anything in its data column 1, whose strip 1 is 2
abbrev spoiled : List ℕ
spoiled =
    4 ∷ 0 ∷ 5 ∷ 0 ∷ 2 ∷ 0 ∷ 2 ∷ 0 ∷ 1 ∷ 0 ∷
    2 ∷ 0 ∷ 0 ∷ 0 ∷ 0 ∷ 0 ∷ 7 ∷ 0 ∷ 0 ∷ 0 ∷
    2 ∷ 0 ∷ 1 ∷ 0 ∷ 0 ∷ 0 ∷ 9 ∷ 9 ∷ 9 ∷ 9 ∷
    2 ∷ 0 ∷ 3 ∷ 0 ∷ 3 ∷ 2 ∷ 3 ∷ 3 ∷ 3 ∷ 0 ∷ []

-- P9's write with this column lost: its revision 8 and its parity, and the column stays
abbrev ninth_image : List ℕ
ninth_image =
    4 ∷ 0 ∷ 5 ∷ 0 ∷ 2 ∷ 0 ∷ 2 ∷ 0 ∷ 1 ∷ 0 ∷
    2 ∷ 0 ∷ 0 ∷ 0 ∷ 0 ∷ 0 ∷ 8 ∷ 0 ∷ 0 ∷ 0 ∷
    2 ∷ 0 ∷ 1 ∷ 0 ∷ 0 ∷ 0 ∷ 9 ∷ 9 ∷ 9 ∷ 9 ∷
    2 ∷ 0 ∷ 1 ∷ 0 ∷ 1 ∷ 0 ∷ 1 ∷ 1 ∷ 1 ∷ 0 ∷ []

pub ninth_away : let l = away_of spoiled 2 1 1 7 (0 ∷ []) in (written_numbers l.answer ≡ 0 ∷ 8 ∷ 6 ∷ 0 ∷ []) × (l.image ≡ ninth_image)
unfolding away_of away_read away_sound away_judged away_written away_difference present_written present_placed present_moved present_word present_count whole_data recovered consulted lost_exponents present_exponents consulted_lanes present_lanes pattern_fits few_lost coefficient lane read_of with_params sections_of checked_of admitted_prime admitted_shape admitted_strip odd_prime below judged distance renewed touch_word total weight bit pack over_of times_of lane_of quot turn gap D act sum pick ◌⊕◌ put patch tab put32 inv evens
ninth_away = (refl, refl)

-- P9's write with parity 0 lost: it stays, and the count is that of parity 1
abbrev parity_lost : List ℕ
parity_lost =
    4 ∷ 0 ∷ 5 ∷ 0 ∷ 2 ∷ 0 ∷ 2 ∷ 0 ∷ 1 ∷ 0 ∷
    2 ∷ 0 ∷ 0 ∷ 0 ∷ 0 ∷ 0 ∷ 8 ∷ 0 ∷ 0 ∷ 0 ∷
    2 ∷ 0 ∷ 1 ∷ 0 ∷ 0 ∷ 0 ∷ 0 ∷ 0 ∷ 0 ∷ 0 ∷
    2 ∷ 0 ∷ 3 ∷ 0 ∷ 3 ∷ 2 ∷ 1 ∷ 1 ∷ 1 ∷ 0 ∷ []

pub ninth_parity_away : let l = away_of example_image 4 1 1 7 (0 ∷ []) in (written_numbers l.answer ≡ 0 ∷ 8 ∷ 3 ∷ 0 ∷ []) × (l.image ≡ parity_lost)
unfolding away_of away_read away_sound away_judged away_written away_difference present_written present_placed present_moved present_word present_count whole_data recovered consulted lost_exponents present_exponents consulted_lanes present_lanes pattern_fits few_lost coefficient lane read_of with_params sections_of checked_of admitted_prime admitted_shape admitted_strip odd_prime below judged distance renewed touch_word total weight bit pack over_of times_of lane_of quot turn gap D act sum pick ◌⊕◌ put patch tab put32 inv evens
ninth_parity_away = (refl, refl)
