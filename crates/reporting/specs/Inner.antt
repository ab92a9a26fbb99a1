-- Room for a report, and the word that check found, taken apart.
-- Assumes nothing.
use Rattle.std.specs.Prelude.{ℕ, ◌*◌, Bool, eqb}
use Rattle.laws.specs.Bit.{bit}

-- no line is longer: a word, four numbers of at most 20 digits with a space before each, and the line's end are 91 bytes
abbrev pub line_room : ℕ
line_room = 96

-- a report has at most 62 lines: one of the parameters, and one for each of k + r columns, which are at most p, so at most 61
abbrev pub report_room : ℕ
report_room = 62 * line_room

-- bit j of the word of wrong parities is clear
unfoldable pub is_clear : ℕ → ℕ → Bool
is_clear wrong j = eqb (bit wrong j) 0
