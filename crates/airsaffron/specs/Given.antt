-- What each function for C answers: the three numbers of `Answer`, for each answer of the call behind it.
-- "A refusal carries its number; every number beside it is 0"
-- Assumes nothing.
use Rattle.std.specs.Prelude.{ℕ, List, eqb, Result, Ok, Err}
use Rattle.laws.specs.Choose.{choose}
use Rattle.refusal.specs.declared.Refusal.{Refusal}
use Rattle.refusal.specs.Number.{number_of, answer_number, answer_value}
use Rattle.write.specs.Written.{written_number, written_revision, written_count, written_distance}
use Rattle.airsaffron.specs.declared.Answer.{Answer}
use Rattle.stripe.specs.declared.Params.{Params}
use Rattle.write.specs.declared.Accepted.{Accepted}
use Rattle.write.specs.declared.Refused.{Refused}
use Rattle.stripe.specs.Params.{answer_values}

-- a refusal, alone
abbrev pub refused_given : Refusal → Answer
refused_given e = record { refusal = number_of e; first = 0; second = 0 }

-- product and divide: the word; check: the word of wrong parities; import: the pattern of the absent columns; the lengths
abbrev pub word_given : Result ℕ Refusal → Answer
word_given x = record { refusal = answer_number x; first = answer_value x; second = 0 }

-- make, refill, rebuild, restore and export: nothing more
abbrev pub outcome_given : Result (Unit {0}) Refusal → Answer
outcome_given x = record { refusal = answer_number x; first = 0; second = 0 }

-- write: the new revision, and the count; "On STALE and AHEAD, document 01's rule that numbers beside a refusal are 0 gives way to this distance."
abbrev pub written_given : Result Accepted Refused → Answer
written_given x = record {
  refusal = written_number x;
  first = choose (eqb (written_number x) 0) (written_revision x) (written_distance x);
  second = written_count x;
}

-- read: nothing more; the lent shape has p, k, r, B, or is left
abbrev pub reading_given : Result Params Refusal → Answer
reading_given x = record { refusal = answer_number x; first = 0; second = 0 }

abbrev pub shape_left : List ℕ → Result Params Refusal → List ℕ
shape_left shape (Ok q) = answer_values (Ok q)
shape_left shape (Err e) = shape

-- show: where the part starts that `rebuild::show` returns, the image being block 1 and the scratch block 2
abbrev pub shown_given : Result Params Refusal → ℕ × ℕ → Answer
shown_given (Ok q) at = record { refusal = 0; first = at.0; second = at.1 }
shown_given (Err e) at = refused_given e
