-- Request 4: "Each box should get just its column. Export writes one file for column n".
-- Assumes nothing.
use Rattle.std.specs.Prelude.{ℕ, ◌+◌, ◌-◌, ◌*◌, List, ◌++◌, ltb}
use Rattle.laws.specs.Choose.{choose}
use Rattle.laws.specs.Part.{part}
use Rattle.stripe.specs.Layout.{rows, column_length, revision_at, data_at, parity_at}
use Rattle.stripe.specs.Sections.{sixteen, four_numbers}
use Rattle.stripe.specs.declared.Params.{Params}

-- "the flag 1 for parity or 0 for data"
unfoldable pub flag : Params → ℕ → ℕ
flag q n = choose (ltb n q.k) 0 1

-- "section one with count 6 and p, k, r, B, n, and the flag 1 for parity or 0 for data"
abbrev pub file_1 : Params → ℕ → List ℕ
file_1 q n = sixteen 6 ++ four_numbers q ++ sixteen n ++ sixteen (flag q n)

-- "count 1 and the revision for data, or count 0 for parity": how many revisions a file carries
unfoldable pub carried : Params → ℕ → ℕ
carried q n = choose (ltb n q.k) 1 0

-- "section two with count 1 and the revision for data, or count 0 for parity"
abbrev pub file_2 : Params → ℕ → List ℕ → List ℕ
file_2 q n revisions = sixteen (carried q n) ++ revisions

-- "section three with count p-1 and the strips"
abbrev pub file_3 : Params → List ℕ → List ℕ
file_3 q strips = sixteen (rows q) ++ strips

-- the file of column n that has these revisions and strips
unfoldable pub file_holding : Params → ℕ → List ℕ → List ℕ → List ℕ
file_holding q n revisions strips = file_1 q n ++ file_2 q n revisions ++ file_3 q strips

-- where n stands in a file, the flag, the count of section two, the revisions, the count of section three, and the strips
abbrev pub number_at : ℕ
number_at = 10

abbrev pub flag_at : ℕ
flag_at = 12

abbrev pub carried_at : ℕ
carried_at = 14

abbrev pub revisions_from : ℕ
revisions_from = 16

abbrev pub strips_count_at : Params → ℕ → ℕ
strips_count_at q n = revisions_from + 4 * carried q n

abbrev pub strips_from : Params → ℕ → ℕ
strips_from q n = strips_count_at q n + 2

abbrev pub file_length : Params → ℕ → ℕ
file_length q n = strips_from q n + column_length q

-- "Columns 0 to k-1 are data, columns k to k+r-1 are parity": where column n of an image starts
unfoldable pub column_at : Params → ℕ → ℕ
column_at q n = choose (ltb n q.k) (data_at q n) (parity_at q (n - q.k))

-- "the revision" and "the strips" of column n of an image
abbrev pub revisions_of : List ℕ → Params → ℕ → List ℕ
revisions_of s q n = part s (revision_at n) (4 * carried q n)

abbrev pub strips_of : List ℕ → Params → ℕ → List ℕ
strips_of s q n = part s (column_at q n) (column_length q)

-- "one file for column n" of the image s
unfoldable pub file_of : List ℕ → Params → ℕ → List ℕ
file_of s q n = file_holding q n (revisions_of s q n) (strips_of s q n)
