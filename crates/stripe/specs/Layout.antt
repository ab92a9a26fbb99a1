-- "Stripe image": where each count, revision and strip lies. Every later crate cites these.
-- Assumes nothing.
use Rattle.std.specs.Prelude.{ℕ, ◌+◌, ◌-◌, ◌*◌, List, get_or}
use Rattle.laws.specs.Number.{u32}
use Rattle.stripe.specs.declared.Params.{Params}

-- "A column has p-1 strips (rows 0 to p-2) of B bytes."
abbrev pub rows : Params → ℕ
rows q = q.p - 1

abbrev pub column_length : Params → ℕ
column_length q = rows q * q.b

-- "1. count 4, then p, k, r, B (16 bits each)": bytes 0 to 9; "2. count k": bytes 10 and 11; "then k revisions (32 bits each)"
abbrev pub revision_at : ℕ → ℕ
revision_at i = 12 + 4 * i

-- "3. count k, then the data columns, each row by row"
abbrev pub data_count_at : Params → ℕ
data_count_at q = 12 + 4 * q.k

abbrev pub data_from : Params → ℕ
data_from q = 14 + 4 * q.k

abbrev pub data_at : Params → ℕ → ℕ
data_at q i = data_from q + i * column_length q

abbrev pub strip_at : Params → ℕ → ℕ → ℕ
strip_at q i t = data_at q i + t * q.b

-- "4. count r, then the parity columns, each row by row"
abbrev pub parity_count_at : Params → ℕ
parity_count_at q = data_at q q.k

abbrev pub parity_from : Params → ℕ
parity_from q = 16 + 4 * q.k + q.k * column_length q

abbrev pub parity_at : Params → ℕ → ℕ
parity_at q j = parity_from q + j * column_length q

abbrev pub parity_strip_at : Params → ℕ → ℕ → ℕ
parity_strip_at q j t = parity_at q j + t * q.b

-- "Length L = 16 + 4k + (k+r)(p-1)B. Nothing follows."
abbrev pub image_length : Params → ℕ
image_length q = 16 + 4 * q.k + (q.k + q.r) * column_length q

-- revision i; byte x of strip t of data column i; byte x of strip t of parity j
abbrev pub revision_of : List ℕ → ℕ → ℕ
revision_of s i = u32 s (revision_at i)

abbrev pub data_byte : List ℕ → Params → ℕ → ℕ → ℕ → ℕ
data_byte s q i t x = get_or s (strip_at q i t + x) 0

abbrev pub parity_byte : List ℕ → Params → ℕ → ℕ → ℕ → ℕ
parity_byte s q j t x = get_or s (parity_strip_at q j t + x) 0
