-- Where the parts of an image lie: in range, apart, and below two million.
-- Assumes nothing.
use Prim.Native.Nat.{ℕ, ◌+◌, ◌*◌, ◌<◌, ◌≤◌}
use mathlib.Core.Logic.{◌≢◌, inl, inr}
use mathlib.Core.Path.{◌≡◌}
use native.Mathlib.Decide.{dec_lt}
use native.Mathlib.Nat.{mul-le-mul}
use native.Mathlib.Omega.{arith}
use Rattle.laws.proofs.Rows.{row_in}
use Rattle.laws.specs.Part.{Clear}
use Rattle.stripe.specs.Layout.{rows, column_length, revision_at, data_count_at, data_from, data_at, strip_at, parity_count_at, parity_from, parity_at, parity_strip_at, image_length}
use Rattle.stripe.specs.Params.{Admitted}
use Rattle.stripe.specs.declared.Params.{Params}

-- at most 60 strips of 512 bytes
pub column_small : (q : Params) → Admitted q → column_length q ≤ 30720
column_small q a = mul-le-mul {n₁ = rows q} {m₁ = q.b} {n₂ = 60} {m₂ = 512} (omega arith) a.b_high

-- at most 61 columns, where c is the length that a call gave
pub columns_small : (q : Params) (n c : ℕ) → Admitted q → n ≤ q.k + q.r → c ≤ 30720 → n * c ≤ 1873920
columns_small q n c a h l = mul-le-mul {n₁ = n} {m₁ = c} {n₂ = 61} {m₂ = 30720} (omega arith) l

-- "Length L": that of p = 61, k = 60, r = 1, B = 512 at most
pub image_small : (q : Params) → Admitted q → image_length q ≤ 1874176
image_small q a = omega (arith, columns_small q (q.k + q.r) (column_length q) a (omega arith) (column_small q a))

-- ---- revisions

pub revision_in : (q : Params) (i : ℕ) → i < q.k → revision_at i + 4 ≤ data_count_at q
revision_in q i h = omega arith

pub revisions_apart : (i j : ℕ) → i ≢ j → Clear (revision_at i) 4 (revision_at j) 4
revisions_apart i j n = go (dec_lt i j)
  where
    go : Dec (i < j) → Clear (revision_at i) 4 (revision_at j) 4
    go (yes h) = inl (omega arith)
    go (no h) = inr (omega arith)

-- ---- data

pub data_column_in : (q : Params) (i : ℕ) → i < q.k → data_at q i + column_length q ≤ parity_count_at q
data_column_in q i h = omega (arith, row_in i q.k (column_length q) h)

pub strip_in : (q : Params) (i t : ℕ) → i < q.k → t < rows q → strip_at q i t + q.b ≤ parity_count_at q
strip_in q i t h l = omega (arith, data_column_in q i h, row_in t (rows q) q.b l)

pub strip_from : (q : Params) (i t : ℕ) → data_from q ≤ strip_at q i t
strip_from q i t = omega arith

-- ---- parity

pub parity_in : (q : Params) → parity_from q ≤ image_length q
parity_in q = omega arith

pub parity_end : (q : Params) → parity_from q + q.r * column_length q ≡ image_length q
parity_end q = omega arith

pub parity_column_in : (q : Params) (j : ℕ) → j < q.r → parity_at q j + column_length q ≤ image_length q
parity_column_in q j h = omega (arith, row_in j q.r (column_length q) h)

pub parity_strip_in : (q : Params) (j t : ℕ) → j < q.r → t < rows q → parity_strip_at q j t + q.b ≤ image_length q
parity_strip_in q j t h l = omega (arith, parity_column_in q j h, row_in t (rows q) q.b l)

pub parity_strip_from : (q : Params) (j t : ℕ) → parity_from q ≤ parity_strip_at q j t
parity_strip_from q j t = omega arith

-- ---- a strip ends below two million

pub strip_small : (q : Params) (i t : ℕ) → Admitted q → i < q.k → t < rows q → strip_at q i t + q.b ≤ 2000000
strip_small q i t a h l = omega (arith, strip_in q i t h l, parity_in q, image_small q a)

pub parity_strip_small : (q : Params) (j t : ℕ) → Admitted q → j < q.r → t < rows q → parity_strip_at q j t + q.b ≤ 2000000
parity_strip_small q j t a h l = omega (arith, parity_strip_in q j t h l, image_small q a)

-- ---- two different strips

-- strips of b bytes, n of them a column
cell_before : (from n b i t i' t' : ℕ) → t < n → i < i' → from + i * (n * b) + t * b + b ≤ from + i' * (n * b) + t' * b
cell_before from n b i t i' t' l h = omega (arith, row_in t n b l, row_in i i' (n * b) h)

cell_above : (from b t t' : ℕ) → t < t' → from + t * b + b ≤ from + t' * b
cell_above from b t t' h = omega (arith, row_in t t' b h)

cells_apart : (from n b i t i' t' : ℕ) → t < n → t' < n → (i ≡ i' → t ≢ t') → Clear (from + i * (n * b) + t * b) b (from + i' * (n * b) + t' * b) b
cells_apart from n b i t i' t' l l' differ = go (dec_lt i i') (dec_lt i' i) (dec_lt t t')
  where
    go : Dec (i < i') → Dec (i' < i) → Dec (t < t') → Clear (from + i * (n * b) + t * b) b (from + i' * (n * b) + t' * b) b
    go (yes h) d e = inl (cell_before from n b i t i' t' l h)
    go (no g) (yes h) e = inr (cell_before from n b i' t' i t l' h)
    go (no g) (no h) (yes k) = let z : i ≡ i' = omega arith in rw z (inl (cell_above (from + i' * (n * b)) b t t' k))
    go (no g) (no h) (no k) = let z : i ≡ i' = omega arith in let m : t' < t = omega (arith, differ z) in rw z (inr (cell_above (from + i' * (n * b)) b t' t m))

module _ (q : Params) (i t i' t' : ℕ) (l : t < rows q) (l' : t' < rows q) (n : i ≡ i' → t ≢ t') where
  pub strips_apart : Clear (strip_at q i t) q.b (strip_at q i' t') q.b
  strips_apart = cells_apart (data_from q) (rows q) q.b i t i' t' l l' n

  pub parity_strips_apart : Clear (parity_strip_at q i t) q.b (parity_strip_at q i' t') q.b
  parity_strips_apart = cells_apart (parity_from q) (rows q) q.b i t i' t' l l' n
