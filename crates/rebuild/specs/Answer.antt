-- What rebuild, restore, show and its companion answer, and what they leave.
-- Assumes nothing.
use Rattle.std.specs.Prelude.{ℕ, ◌+◌, ◌-◌, List, [], ltb, length, take, Result, Ok, Err}
use Rattle.laws.specs.Left.{Left}
use Rattle.laws.specs.Choose.{choose}
use Rattle.laws.specs.Part.{part, put, tab}
use Rattle.refusal.specs.declared.Refusal.TheVariants.{Column, Many}
use Rattle.stripe.specs.declared.Params.{Params}
use Rattle.stripe.specs.Layout.{strip_at, parity_strip_at}
use Rattle.stripe.specs.Reading.{read_of}
use Rattle.rebuild.specs.Lost.{whole_byte, rebuilt}
use Rattle.pattern.specs.Pattern.{is_lost, pattern_fits, few_lost, asked}
use Rattle.refusal.specs.declared.Refusal.{Refusal}
use Rattle.refusal.specs.Number.{answer_number}

-- "Rebuild: a 64-bit pattern, bit n for lost column n. Order: reading, COLUMN, MANY."
unfoldable pub rebuild_read : List ℕ → ℕ → Result Params Refusal → Left (Result (Unit {0}) Refusal)
rebuild_read s m (Ok q) =
    choose (pattern_fits q m)
    (choose (few_lost q m) (record { answer = Ok tt; image = rebuilt s q m }) (record { answer = Err Many; image = s }))
    (record { answer = Err Column; image = s })
rebuild_read s m (Err e) = record { answer = Err e; image = s }

unfoldable pub rebuild_of : List ℕ → ℕ → Left (Result (Unit {0}) Refusal)
rebuild_of s m = rebuild_read s m (read_of s)

-- "If the column is lost, restoring writes the strip that Rebuild would put there into the first B scratch bytes, otherwise nothing."
unfoldable pub restore_asked : List ℕ → ℕ → ℕ → ℕ → List ℕ → Result Params Refusal → Left (Result (Unit {0}) Refusal)
restore_asked s m n t c (Ok q) =
    record { answer = Ok tt; image = choose (is_lost m n) (put c 0 (tab q.b (whole_byte s q m n t))) c }
restore_asked s m n t c (Err e) = record { answer = Err e; image = c }

unfoldable pub restore_of : List ℕ → ℕ → ℕ → ℕ → List ℕ → Left (Result (Unit {0}) Refusal)
restore_of s m n t c = restore_asked s m n t c (asked s m n t (length c))

-- where strip t of column n starts in the image
abbrev pub column_strip_at : Params → ℕ → ℕ → ℕ
column_strip_at q n t = choose (ltb n q.k) (strip_at q n t) (parity_strip_at q (n - q.k) t)

-- "Showing returns the strip as a part of the image if present, else of the scratch (its first B bytes, as they stand)."
-- "A refused show returns an empty part of the scratch"
unfoldable pub shown_asked : List ℕ → ℕ → ℕ → ℕ → List ℕ → Result Params Refusal → List ℕ
shown_asked s m n t c (Ok q) = choose (is_lost m n) (take q.b c) (part s (column_strip_at q n t) q.b)
shown_asked s m n t c (Err e) = []

unfoldable pub shown : List ℕ → ℕ → ℕ → ℕ → List ℕ → List ℕ
shown s m n t c = shown_asked s m n t c (asked s m n t (length c))

-- where the part starts: block and offset of the image's or of the scratch's first byte, i and c
unfoldable pub shown_asked_at : ℕ → ℕ → ℕ → ℕ × ℕ → ℕ × ℕ → Result Params Refusal → ℕ × ℕ
shown_asked_at m n t i c (Ok q) = choose (is_lost m n) c (i.0, i.1 + column_strip_at q n t)
shown_asked_at m n t i c (Err e) = c

unfoldable pub shown_at : List ℕ → ℕ → ℕ → ℕ → ℕ → ℕ × ℕ → ℕ × ℕ → ℕ × ℕ
shown_at s m n t room i c = shown_asked_at m n t i c (asked s m n t room)

-- "a companion call on the same inputs gives its number, or 0"
unfoldable pub show_number : List ℕ → ℕ → ℕ → ℕ → ℕ → ℕ
show_number s m n t room = answer_number (asked s m n t room)
