-- "Answers are one line, `done ..` or `refused N NAME` (NAME in capitals as in document 01)." Request 2: `refused 10 STALE 3`, three notes behind; request
-- 3: `refused 17 UNCLEAR 0`. Request 4: for import `done ABSENT`.
-- Assumes nothing.
use Rattle.std.specs.Prelude.{ℕ, List, [], ◌++◌, get_or}
use Rattle.refusal.specs.Number.{number_of}
use Rattle.revision.specs.Revision.{age_number, age_distance}
use Rattle.texts.specs.Text.{text, spaced, bytes, line_end}
use Rattle.words.specs.Words.{parts}
use Rattle.answers.specs.List.{list_of}
use Rattle.answers.specs.declared.Answer.{Answer}
use Rattle.answers.specs.declared.Answer.TheVariants.{Done, Word, Absent, Accepted, Aged, Refused, Said}

-- the names of the refusals, each after a space, in the order of their numbers
abbrev pub names : List ℕ
names = bytes " CUT TAIL COUNT PRIME SHAPE STRIP WIDTH COLUMN ROW STALE AHEAD MANY ROOM LONG EXPONENT ELEMENT UNCLEAR FOREIGN TWICE"

-- the name that has a number: that word of all names
abbrev pub named : ℕ → List ℕ
named n = get_or (parts 32 names) n []

-- `refused N NAME`
abbrev pub refused_start : ℕ → List ℕ
refused_start n = bytes "refused" ++ (spaced (text n) ++ spaced (named n))

-- "for check: `done W` with the word of wrong parities in decimal; for write `done REVISION COUNT`; for make, refill, rebuild `done`"; for import
-- the absent columns, as `rebuild` takes them
abbrev pub line_of : Answer → List ℕ
line_of Done = bytes "done" ++ line_end
line_of (Word w) = bytes "done" ++ (spaced (text w) ++ line_end)
line_of (Absent w) = bytes "done" ++ (spaced (list_of w) ++ line_end)
line_of (Accepted n c) = bytes "done" ++ (spaced (text n) ++ (spaced (text c) ++ line_end))
line_of (Aged g) = refused_start (age_number g) ++ (spaced (text (age_distance g)) ++ line_end)
line_of (Refused e) = refused_start (number_of e) ++ line_end
line_of Said = []
