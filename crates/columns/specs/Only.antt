-- The words of request 4's promise: the files of columns one after another, and the image with exactly these columns.
-- Assumes nothing.
use Rattle.std.specs.Prelude.{ℕ, ◌+◌, ◌*◌, ◌/◌, ◌<◌, Bool, true, false, ◌||◌, List, [], ◌∷◌, ◌++◌, ◌≡◌, eqb, get_or}
use Rattle.laws.specs.Bit.{pack}
use Rattle.laws.specs.Choose.{choose}
use Rattle.laws.specs.Part.{tab}
use Rattle.stripe.specs.Layout.{column_length, revision_at, data_from, parity_from}
use Rattle.stripe.specs.Sections.{image_of, columns_in, parities_in}
use Rattle.stripe.specs.declared.Params.{Params}
use Rattle.column_file.specs.File.{file_of}

-- n stands in the list
unfoldable pub among : ℕ → List ℕ → Bool
among n [] = false
among n (m ∷ ns) = eqb n m || among n ns

-- columns of a stripe, "in any order", none of them twice
pub data Listed (q : Params) : List ℕ → Type 0 where
  none : Listed q []
  more : {n : ℕ} {ns : List ℕ} → n < q.k + q.r → among n ns ≡ false → Listed q ns → Listed q (n ∷ ns)

-- "all columns"
abbrev pub AllListed : Params → List ℕ → Type 0
AllListed q ns = (n : ℕ) → n < q.k + q.r → among n ns ≡ true

-- "such files, one after another in a lent slice": of the columns of the list
unfoldable pub exported : List ℕ → Params → List ℕ → List ℕ
exported s q [] = []
exported s q (n ∷ ns) = file_of s q n ++ exported s q ns

-- "Absent columns and their revisions are filled with zeros": the revisions, data columns and parity columns of s that the list names
unfoldable pub only_revisions : List ℕ → Params → List ℕ → List ℕ
only_revisions s q ns = tab (4 * q.k) (λ o. choose (among (o / 4) ns) (get_or s (revision_at 0 + o) 0) 0)

unfoldable pub only_columns : List ℕ → Params → List ℕ → List ℕ
only_columns s q ns = tab (q.k * column_length q) (λ o. choose (among (o / column_length q) ns) (get_or s (data_from q + o) 0) 0)

unfoldable pub only_parities : List ℕ → Params → List ℕ → List ℕ
only_parities s q ns = tab (q.r * column_length q) (λ o. choose (among (q.k + o / column_length q) ns) (get_or s (parity_from q + o) 0) 0)

-- the image that has of s the columns of the list and their revisions
abbrev pub only : List ℕ → Params → List ℕ → List ℕ
only s q ns = image_of q (only_revisions s q ns) (only_columns s q ns) (only_parities s q ns)

-- the image that has every strip of s, and the revisions of the columns of the list
abbrev pub all_strips : List ℕ → Params → List ℕ → List ℕ
all_strips s q ns = image_of q (only_revisions s q ns) (columns_in s q) (parities_in s q)

-- "the pattern of absent columns": bit n is set where n does not stand in the list
unfoldable pub others : Params → List ℕ → ℕ
others q ns = pack (q.k + q.r) (λ n. choose (among n ns) 0 1)
