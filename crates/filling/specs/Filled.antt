-- Request 4: "Import .. fills an image". "Absent columns and their revisions are filled with zeros."
-- Assumes nothing.
use Rattle.std.specs.Prelude.{ℕ, zero, suc, ◌+◌, ◌-◌, ◌*◌, List, ltb, length}
use Rattle.laws.specs.Choose.{choose}
use Rattle.laws.specs.Number.{u16}
use Rattle.laws.specs.Part.{part, put, tab}
use Rattle.stripe.specs.Layout.{column_length, revision_at}
use Rattle.stripe.specs.Sections.{image_of}
use Rattle.stripe.specs.declared.Params.{Params}
use Rattle.column_file.specs.File.{column_at, carried, number_at, revisions_from, strips_from, file_length}

-- so many zeros
abbrev pub zeros : ℕ → List ℕ
zeros n = tab n (λ o. 0)

-- "Absent columns and their revisions are filled with zeros": the image with every column absent
unfoldable pub blank : Params → List ℕ
blank q = image_of q (zeros (4 * q.k)) (zeros (q.k * column_length q)) (zeros (q.r * column_length q))

-- an image with these revisions and strips in the place of column n's
unfoldable pub put_column : Params → ℕ → List ℕ → List ℕ → List ℕ → List ℕ
put_column q n revisions strips t = put (put t (revision_at n) revisions) (column_at q n) strips

-- with those of the file of column n at a place of s
unfoldable pub put_file : List ℕ → ℕ → Params → ℕ → List ℕ → List ℕ
put_file s at q n t = put_column q n (part s (at + revisions_from) (4 * carried q n)) (part s (at + strips_from q n) (column_length q)) t

-- every file from a place on put into t, of so many files at most
unfoldable pub fill : ℕ → List ℕ → Params → ℕ → List ℕ → List ℕ
fill zero s q at t = t
fill (suc most) s q at t =
    choose (ltb at (length s)) (fill most s q (at + file_length q (u16 s (at + number_at))) (put_file s at q (u16 s (at + number_at)) t)) t

-- each file has bytes, so that there are no more files than bytes
abbrev pub filled_from : List ℕ → Params → ℕ → List ℕ → List ℕ
filled_from s q at t = fill (length s - at) s q at t
