-- P1 to P13, by computation.
-- Assumes nothing.
use mathlib.Core.List.{map}
use mathlib.Core.Path.{◌≡◌, refl}
use Rattle.laws.specs.Bit.{weight, bit, pack}
use Rattle.laws.specs.Choose.{below}
use Rattle.laws.specs.Number.{put32}
use Rattle.laws.specs.Part.{tab, part, put}
use Rattle.laws.specs.Patch.{patch}
use Rattle.laws.specs.Sum.{sum, pick, total}
use Rattle.laws.specs.Xor.{◌⊕◌}
use Rattle.algebra.specs.Column.{coefficient, lane}
use Rattle.algebra.specs.Divide.{quot, turn, gap, inv, evens}
use Rattle.algebra.specs.Lane.{act, D}
use Rattle.algebra.specs.Prime.{odd_prime}
use Rattle.algebra.specs.Word.{element, over_of, lane_of, times_of}
use Rattle.stripe.specs.Params.{admitted_prime, checked_of, admitted_shape, admitted_strip}
use Rattle.stripe.specs.Reading.{read_of, with_params, sections_of}
use Rattle.stripe.specs.Sections.{image_of}
use Rattle.ring.specs.Answer.{divide_answer, different}
use Rattle.parity.specs.Answer.{make_of, make_checked, make_sound, check_of, check_read, wrong_parities, parity_right}
use Rattle.parity.specs.Make.{made}
use Rattle.block.specs.Parity.{due_at, due}
use Rattle.block.specs.Touches.{touches, touch_word, count}
use Rattle.revision.specs.Revision.{judged, distance, renewed}
use Rattle.write.specs.Written.{write_of, write_read, write_sound, write_judged, written, moved, difference}
use Rattle.rebuild.specs.Answer.{rebuild_of, rebuild_read}
use Rattle.pattern.specs.Pattern.{pattern_fits, few_lost, consulted, lost_exponents, present_exponents}
use Rattle.rebuild.specs.Lost.{rebuilt, whole_data, whole_parity, recovered, consulted_lanes, present_lanes}
use Rattle.promises.specs.Table.{bench}

pub examples_right : map (λ r. r.given) bench ≡ map (λ r. r.expected) bench
unfolding bench divide_answer element different admitted_prime odd_prime below weight bit over_of pack lane_of act quot turn gap inv evens sum pick ◌⊕◌ make_of make_checked make_sound checked_of admitted_shape admitted_strip made image_of due_at due coefficient lane tab part put check_of check_read wrong_parities parity_right read_of with_params sections_of rebuild_of rebuild_read pattern_fits few_lost rebuilt patch whole_data whole_parity recovered consulted lost_exponents present_exponents consulted_lanes present_lanes D write_of write_read write_sound write_judged judged distance renewed written moved difference touches touch_word count total times_of put32
examples_right = refl
