-- "Four sections stand in this order, each after a 16-bit count": an image written out from what stands in its sections, and the opening that it shares
-- with the file of a column.
-- Assumes nothing.
use Rattle.std.specs.Prelude.{ℕ, ◌+◌, ◌*◌, List, ◌++◌, ◌≡◌, length}
use Rattle.laws.specs.Number.{byte, u16}
use Rattle.laws.specs.Part.{part, put, tab}
use Rattle.stripe.specs.Layout.{column_length, revision_at, data_from, parity_from, image_length}
use Rattle.stripe.specs.Params.{Admitted}
use Rattle.stripe.specs.declared.Params.{Params}

-- "All numbers are little-endian": a number of 16 bits
abbrev pub sixteen : ℕ → List ℕ
sixteen v = tab 2 (byte v)

-- "p, k, r, B (16 bits each)"
abbrev pub four_numbers : Params → List ℕ
four_numbers q = sixteen q.p ++ sixteen q.k ++ sixteen q.r ++ sixteen q.b

-- those that stand behind the count at a place, whatever they are
abbrev pub numbers_at : List ℕ → ℕ → Params
numbers_at s at = record { p = u16 s (at + 2); k = u16 s (at + 4); r = u16 s (at + 6); b = u16 s (at + 8) }

-- "1. count 4, then p, k, r, B (16 bits each)"
abbrev pub section_1 : Params → List ℕ
section_1 q = sixteen 4 ++ four_numbers q

-- "2. count k, then k revisions (32 bits each)"
abbrev pub section_2 : Params → List ℕ → List ℕ
section_2 q revisions = sixteen q.k ++ revisions

-- "3. count k, then the data columns, each row by row"
abbrev pub section_3 : Params → List ℕ → List ℕ
section_3 q columns = sixteen q.k ++ columns

-- "4. count r, then the parity columns, each row by row"
abbrev pub section_4 : Params → List ℕ → List ℕ
section_4 q parities = sixteen q.r ++ parities

-- the image that has these revisions, data columns and parity columns
unfoldable pub image_of : Params → List ℕ → List ℕ → List ℕ → List ℕ
image_of q revisions columns parities = section_1 q ++ section_2 q revisions ++ section_3 q columns ++ section_4 q parities

-- what stands in the sections of an image
abbrev pub revisions_in : List ℕ → Params → List ℕ
revisions_in s q = part s (revision_at 0) (4 * q.k)

abbrev pub columns_in : List ℕ → Params → List ℕ
columns_in s q = part s (data_from q) (q.k * column_length q)

abbrev pub parities_in : List ℕ → Params → List ℕ
parities_in s q = part s (parity_from q) (q.r * column_length q)

-- ---- what is written

-- three numbers of 16 bits
abbrev pub three : ℕ → ℕ → ℕ → List ℕ
three a b c = sixteen a ++ sixteen b ++ sixteen c

-- a count, the parameters, and the number behind them: what an image and the file of a column open with
abbrev pub opening : ℕ → Params → ℕ → List ℕ
opening count q next = sixteen count ++ four_numbers q ++ sixteen next

-- s is now t: the bytes of v were put at a place
pub record PutIn (s t : List ℕ) (at : ℕ) (v : List ℕ) : Type 0 where
  pub len : length t ≡ length s
  pub bytes : t ≡ put s at v

-- a slice of an image's length
pub record Fits (s : List ℕ) (q : Params) : Type 0 where
  pub admitted : Admitted q
  pub room : length s ≡ image_length q
