-- "depot make P K R B DATA IMAGE", "depot check IMAGE", "depot refill IMAGE", "depot write IMAGE COLUMN ROW BASE STRIP [LOST]",
-- "depot rebuild IMAGE LOST", "depot show IMAGE LOST COLUMN ROW", "depot report IMAGE", "depot help";
-- request 4: "export IMAGE COLUMN FILE", "import IMAGE FILE..";
-- "words that are no number, numbers above 2^64 - 1, missing or surplus words get one line of usage".
-- Assumes nothing.
use Rattle.std.specs.Prelude.{ℕ, ◌^◌, Bool, ◌&&◌, Option, Some, None, List, [], ◌∷◌, eqb, ltb, leb, length, get_or}
use Rattle.laws.specs.Choose.{choose}
use Rattle.words.specs.declared.Command.{Command}
use Rattle.words.specs.declared.Command.TheVariants.{Make, Check, Refill, Write, Rebuild, Show, Export, Import, Report, Help, Usage}
use Rattle.words.specs.Words.{same_bytes}
use Rattle.words.specs.Decimal.{decimal_of}
use Rattle.words.specs.Columns.{columns_of}

-- the names of the commands
abbrev pub make_name : List ℕ
make_name = 109 ∷ 97 ∷ 107 ∷ 101 ∷ []

abbrev pub write_name : List ℕ
write_name = 119 ∷ 114 ∷ 105 ∷ 116 ∷ 101 ∷ []

abbrev pub rebuild_name : List ℕ
rebuild_name = 114 ∷ 101 ∷ 98 ∷ 117 ∷ 105 ∷ 108 ∷ 100 ∷ []

abbrev pub show_name : List ℕ
show_name = 115 ∷ 104 ∷ 111 ∷ 119 ∷ []

abbrev pub export_name : List ℕ
export_name = 101 ∷ 120 ∷ 112 ∷ 111 ∷ 114 ∷ 116 ∷ []

abbrev pub import_name : List ℕ
import_name = 105 ∷ 109 ∷ 112 ∷ 111 ∷ 114 ∷ 116 ∷ []

abbrev pub check_name : List ℕ
check_name = 99 ∷ 104 ∷ 101 ∷ 99 ∷ 107 ∷ []

abbrev pub refill_name : List ℕ
refill_name = 114 ∷ 101 ∷ 102 ∷ 105 ∷ 108 ∷ 108 ∷ []

abbrev pub report_name : List ℕ
report_name = 114 ∷ 101 ∷ 112 ∷ 111 ∷ 114 ∷ 116 ∷ []

abbrev pub help_name : List ℕ
help_name = 104 ∷ 101 ∷ 108 ∷ 112 ∷ []

-- the words are n, and the first is the name
abbrev pub asks_for : List (List ℕ) → List ℕ → ℕ → Bool
asks_for ws name n = eqb (length ws) n && same_bytes (get_or ws 0 []) name

-- the words are n or more, and the first is the name
abbrev pub asks_from : List (List ℕ) → List ℕ → ℕ → Bool
asks_from ws name n = leb n (length ws) && same_bytes (get_or ws 0 []) name

-- a word that is no number gets usage, and so does one that is no list of columns
abbrev pub with_value : Option ℕ → (ℕ → Command) → Command
with_value (Some n) f = f n
with_value None f = Usage

-- a line that asks for no command gets usage
abbrev pub or_usage : Option Command → Command
or_usage (Some c) = c
or_usage None = Usage

-- word i as a number, and as a list of columns
abbrev pub number_in : List (List ℕ) → ℕ → Option ℕ
number_in ws i = decimal_of (get_or ws i [])

abbrev pub columns_in : List (List ℕ) → ℕ → Option ℕ
columns_in ws i = columns_of (get_or ws i [])

abbrev pub make_words : List (List ℕ) → Command
make_words ws =
    with_value (number_in ws 1) (λ p. with_value (number_in ws 2) (λ k. with_value (number_in ws 3) (λ r. with_value (number_in ws 4) (λ b. Make p k r b))))

-- a base is a revision, a number of 32 bits; "`write` takes an optional last word LOST": where it is not there, no column is lost
abbrev pub write_words : List (List ℕ) → Command
write_words ws =
    with_value (number_in ws 2) (λ column. with_value (number_in ws 3) (λ row. with_value (number_in ws 4) (λ base.
    choose (ltb base (2 ^ 32)) (with_value (columns_in ws 6) (λ lost. Write column row base lost)) Usage)))

abbrev pub rebuild_words : List (List ℕ) → Command
rebuild_words ws = with_value (columns_in ws 2) (λ lost. Rebuild lost)

abbrev pub show_words : List (List ℕ) → Command
show_words ws =
    with_value (columns_in ws 2) (λ lost. with_value (number_in ws 3) (λ column. with_value (number_in ws 4) (λ row. Show lost column row)))

abbrev pub export_words : List (List ℕ) → Command
export_words ws = with_value (number_in ws 2) (λ column. Export column)

-- check, refill, report, help
abbrev pub short_command : List (List ℕ) → Command
short_command ws =
    choose (asks_for ws check_name 2) Check
    (choose (asks_for ws refill_name 2) Refill
    (choose (asks_for ws report_name 2) Report
    (choose (asks_for ws help_name 1) Help
    Usage)))

-- make, write, rebuild, show, export, import with one file or more, then those
abbrev pub command_of : List (List ℕ) → Command
command_of ws =
    choose (asks_for ws make_name 7) (make_words ws)
    (choose (asks_for ws write_name 6) (write_words ws)
    (choose (asks_for ws write_name 7) (write_words ws)
    (choose (asks_for ws rebuild_name 3) (rebuild_words ws)
    (choose (asks_for ws show_name 5) (show_words ws)
    (choose (asks_for ws export_name 4) (export_words ws)
    (choose (asks_from ws import_name 3) Import
    (short_command ws)))))))
