-- By computation. Names stand at their numbers: 0 has none, and a word too few or too many would shift the last.
-- The lines of no absent column, of two, and of a column with two digits.
-- Assumes nothing.
use mathlib.Core.List.{[], ◌++◌}
use mathlib.Core.Path.{◌≡◌, refl}
use Rattle.laws.specs.Bit.{bit}
use Rattle.laws.specs.Sum.{total}
use Rattle.refusal.specs.declared.Refusal.TheVariants.{Cut, Stale, Twice}
use Rattle.refusal.specs.Number.{number_of}
use Rattle.words.specs.Words.{parts, before_first}
use Rattle.texts.specs.Text.{bytes, line_end, text, places}
use Rattle.answers.specs.Line.{named, line_of}
use Rattle.answers.specs.List.{columns_below, list_of, next_text}
use Rattle.answers.specs.declared.Answer.TheVariants.{Absent}

pub none_named : named 0 ≡ []
unfolding parts before_first
none_named = refl

pub cut_named : named (number_of Cut) ≡ bytes "CUT"
unfolding parts before_first
cut_named = refl

pub stale_named : named (number_of Stale) ≡ bytes "STALE"
unfolding parts before_first
stale_named = refl

pub twice_named : named (number_of Twice) ≡ bytes "TWICE"
unfolding parts before_first
twice_named = refl

pub none_absent : line_of (Absent 0) ≡ bytes "done -" ++ line_end
unfolding list_of
none_absent = refl

pub two_absent : line_of (Absent 5) ≡ bytes "done 0,2" ++ line_end
unfolding list_of columns_below next_text bit text places total
two_absent = refl

pub far_absent : line_of (Absent 3072) ≡ bytes "done 10,11" ++ line_end
unfolding list_of columns_below next_text bit text places total
far_absent = refl
