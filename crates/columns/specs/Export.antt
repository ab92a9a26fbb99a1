-- Request 4: "Export writes one file for column n". "export gives reading's, COLUMN, then ROOM for a lent slice not of the file's length".
-- Assumes nothing.
use Rattle.std.specs.Prelude.{ℕ, ◌+◌, List, ltb, eqb, length, Result, Ok, Err}
use Rattle.laws.specs.Choose.{choose}
use Rattle.laws.specs.Left.{Left}
use Rattle.refusal.specs.declared.Refusal.TheVariants.{Column, Room}
use Rattle.stripe.specs.declared.Params.{Params}
use Rattle.stripe.specs.Reading.{read_of}
use Rattle.column_file.specs.File.{file_length, file_of}
use Rattle.refusal.specs.declared.Refusal.{Refusal}

-- "COLUMN, then ROOM for a lent slice not of the file's length"; t is the lent slice
unfoldable pub export_sound : List ℕ → ℕ → List ℕ → Params → Left (Result (Unit {0}) Refusal)
export_sound s n t q =
    choose (ltb n (q.k + q.r))
    (choose (eqb (length t) (file_length q n))
    (record { answer = Ok tt; image = file_of s q n })
    (record { answer = Err Room; image = t }))
    (record { answer = Err Column; image = t })

-- "export gives reading's"
unfoldable pub export_read : List ℕ → ℕ → List ℕ → Result Params Refusal → Left (Result (Unit {0}) Refusal)
export_read s n t (Ok q) = export_sound s n t q
export_read s n t (Err e) = record { answer = Err e; image = t }

unfoldable pub export_of : List ℕ → ℕ → List ℕ → Left (Result (Unit {0}) Refusal)
export_of s n t = export_read s n t (read_of s)

-- "the file's length", for a caller that lends the slice: refused as export is, but for ROOM
unfoldable pub file_length_sound : ℕ → Params → Result ℕ Refusal
file_length_sound n q = choose (ltb n (q.k + q.r)) (Ok (file_length q n)) (Err Column)

unfoldable pub file_length_read : ℕ → Result Params Refusal → Result ℕ Refusal
file_length_read n (Ok q) = file_length_sound n q
file_length_read n (Err e) = Err e

unfoldable pub file_length_of : List ℕ → ℕ → Result ℕ Refusal
file_length_of s n = file_length_read n (read_of s)
