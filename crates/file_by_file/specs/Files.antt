-- Request 4: "Import takes any set of such files, one after another in a lent slice". "Import takes file by file: CUT below 2 bytes (also for no file at
-- all), section one's COUNT, CUT below 14, PRIME, SHAPE, STRIP, COLUMN for n not below k+r, 18 FOREIGN for parameters unlike the first file's or a flag
-- wrong for n, 19 TWICE for a column met again, CUT, the other counts".
-- Assumes nothing.
use Rattle.std.specs.Prelude.{ℕ, zero, suc, ◌+◌, ◌-◌, ◌^◌, Bool, ◌&&◌, List, ltb, eqb, length, Result, Ok, Err}
use Rattle.laws.specs.Bit.{bit}
use Rattle.laws.specs.Choose.{choose}
use Rattle.laws.specs.Number.{u16}
use Rattle.laws.specs.Xor.{◌⊕◌}
use Rattle.refusal.specs.declared.Refusal.TheVariants.{Cut, Count, Column, Foreign, Twice}
use Rattle.stripe.specs.Layout.{rows}
use Rattle.stripe.specs.Params.{checked_of}
use Rattle.stripe.specs.Sections.{numbers_at}
use Rattle.stripe.specs.declared.Params.{Params}
use Rattle.column_file.specs.File.{flag, carried, number_at, flag_at, carried_at, strips_count_at, file_length}
use Rattle.refusal.specs.declared.Refusal.{Refusal}
use Rattle.file_by_file.specs.declared.File.{File}

-- ---- one file, at a place of the slice; met has the bits of the columns before it

-- the parameters of the first file
abbrev pub first_params : List ℕ → Params
first_params s = numbers_at s 0

-- "parameters unlike the first file's" are not alike
unfoldable pub alike : List ℕ → ℕ → Bool
alike s at =
    eqb (u16 s (at + 2)) (u16 s 2) && (eqb (u16 s (at + 4)) (u16 s 4) && (eqb (u16 s (at + 6)) (u16 s 6) && eqb (u16 s (at + 8)) (u16 s 8)))

-- "the other counts", of the file of column n
unfoldable pub counted : List ℕ → ℕ → Params → ℕ → Bool
counted s at q n = eqb (u16 s (at + carried_at)) (carried q n) && eqb (u16 s (at + strips_count_at q n)) (rows q)

-- "CUT, the other counts"
unfoldable pub body_step : List ℕ → ℕ → Params → ℕ → Result File Refusal
body_step s at q n =
    choose (ltb (length s - at) (file_length q n)) (Err Cut)
    (choose (counted s at q n) (Ok (record { column = n; end = at + file_length q n })) (Err Count))

-- "COLUMN for n not below k+r, 18 FOREIGN for parameters unlike the first file's or a flag wrong for n, 19 TWICE for a column met again"
unfoldable pub column_step : List ℕ → ℕ → ℕ → Params → ℕ → Result File Refusal
column_step s at met q n =
    choose (ltb n (q.k + q.r))
    (choose (alike s at && eqb (u16 s (at + flag_at)) (flag q n))
    (choose (eqb (bit met n) 0) (body_step s at q n) (Err Twice))
    (Err Foreign))
    (Err Column)

-- "PRIME, SHAPE, STRIP"
unfoldable pub checked_step : List ℕ → ℕ → ℕ → Result Params Refusal → Result File Refusal
checked_step s at met (Ok q) = column_step s at met q (u16 s (at + number_at))
checked_step s at met (Err e) = Err e

-- "CUT below 2 bytes (also for no file at all), section one's COUNT, CUT below 14"
unfoldable pub step_of : List ℕ → ℕ → ℕ → Result File Refusal
step_of s at met =
    choose (ltb (length s - at) 2) (Err Cut)
    (choose (eqb (u16 s at) 6)
    (choose (ltb (length s - at) 14) (Err Cut)
    (checked_step s at met (checked_of (u16 s (at + 2)) (u16 s (at + 4)) (u16 s (at + 6)) (u16 s (at + 8)))))
    (Err Count))

-- ---- "file by file": to the end of the slice, which each file comes nearer to

unfoldable pub onward : List ℕ → ℕ → (ℕ → ℕ → Result ℕ Refusal) → Result File Refusal → Result ℕ Refusal
onward s met rest (Ok f) = choose (ltb f.end (length s)) (rest f.end (met ⊕ 2 ^ f.column)) (Ok (met ⊕ 2 ^ f.column))
onward s met rest (Err e) = Err e

-- of so many files at most
unfoldable pub walk : ℕ → List ℕ → ℕ → ℕ → Result ℕ Refusal
walk zero s at met = Err Cut
walk (suc most) s at met = onward s met (λ to m. walk most s to m) (step_of s at met)

-- the files from a place on: each has bytes, so that there are no more files than bytes
abbrev pub met_from : List ℕ → ℕ → ℕ → Result ℕ Refusal
met_from s at met = walk (length s - at) s at met
