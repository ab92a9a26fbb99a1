-- The bytes of each column of an image: where they lie, and that no byte has two columns.
-- Assumes nothing.
use Prim.Native.Nat.{ℕ, ◌+◌, ◌-◌, ◌*◌, ◌/◌, ◌<◌, ◌≤◌}
use mathlib.Core.Logic.{inl, inr}
use mathlib.Core.Path.{◌≡◌, sym, ap, ◌∙◌}
use native.Mathlib.Decide.{dec_lt}
use native.Mathlib.Nat.{div-add-mod', mod-lt, mul-le-mul_right}
use native.Mathlib.Omega.{arith}
use lib.Arith.{digits_div}
use Rattle.stripe.proofs.Places.{data_column_in}
use Rattle.stripe.specs.Layout.{column_length, revision_at, data_count_at, data_from, data_at, parity_count_at, parity_from, parity_at, image_length}
use Rattle.stripe.specs.declared.Params.{Params}
use Rattle.column_file.specs.File.{column_at}
use Rattle.column_file.proofs.Columns.{column_data, column_parity, carried_data, carried_parity}
use Rattle.filling.proofs.Bytes.{Of}

pub data Spot (q : Params) (m o : ℕ) : Type 0 where
  revised : m < q.k → revision_at m ≤ o → o < revision_at m + 4 → Spot q m o
  datum : m < q.k → data_at q m ≤ o → o < data_at q m + column_length q → Spot q m o
  parity : q.k ≤ m → parity_at q (m - q.k) ≤ o → o < parity_at q (m - q.k) + column_length q → Spot q m o

pub spot : (q : Params) (m o : ℕ) → Of q m o → Spot q m o
spot q m o f = go (dec_lt m q.k) f
  where
    go : Dec (m < q.k) → Of q m o → Spot q m o
    go (yes h) (inl w) = revised h w.0 (omega (arith, w.1, carried_data q m h))
    go (yes h) (inr w) = datum h (omega (arith, w.0, column_data q m h)) (omega (arith, w.1, column_data q m h))
    go (no h) (inl w) = let g : q.k ≤ m = omega arith in absurd (omega (arith, w.0, w.1, carried_parity q m g))
    go (no h) (inr w) = let g : q.k ≤ m = omega arith in parity g (omega (arith, w.0, column_parity q m g)) (omega (arith, w.1, column_parity q m g))

-- a row of c places
pub row_is : (m x c : ℕ) → m * c ≤ x → x < m * c + c → x / c ≡ m
row_is m x c h g =
    let r : ℕ = x - m * c in
    let z : m * c + r ≡ x = omega arith in
    let l : r < c = omega arith in
    ap (λ (y : ℕ). y / c) (sym z) ∙ digits_div m l

some_row : (x k c : ℕ) → x < k * c → 0 < c
some_row x k c h = go (dec_lt 0 c)
  where
    go : Dec (0 < c) → 0 < c
    go (yes g) = g
    go (no g) = let z : c ≡ 0 = omega arith in absurd (omega (arith, ap (λ (y : ℕ). k * y) z))

low : (x k c : ℕ) → x < k * c → x / c * c ≤ x
low x k c h = omega (arith, div-add-mod' x c)

high : (x k c : ℕ) → x < k * c → x < x / c * c + c
high x k c h = omega (arith, div-add-mod' x c, mod-lt x (some_row x k c h))

pub row_below : (x k c : ℕ) → x < k * c → x / c < k
row_below x k c h = go (dec_lt (x / c) k)
  where
    go : Dec (x / c < k) → x / c < k
    go (yes g) = g
    go (no g) = absurd (omega (arith, low x k c h, mult))
      where
        mult : k * c ≤ x / c * c
        mult = mul-le-mul_right c (omega arith)

module _ (q : Params) where
  -- ---- bytes of no column

  pub head_of : (o : ℕ) → o < revision_at 0 → (m : ℕ) → Of q m o → ⊥
  head_of o h m f = go (spot q m o f)
    where
      go : Spot q m o → ⊥
      go (revised l a b) = omega arith
      go (datum l a b) = omega arith
      go (parity l a b) = omega arith

  pub third_of : (x : ℕ) → x < 2 → (m : ℕ) → Of q m (data_count_at q + x) → ⊥
  third_of x h m f = go (spot q m (data_count_at q + x) f)
    where
      go : Spot q m (data_count_at q + x) → ⊥
      go (revised l a b) = omega arith
      go (datum l a b) = omega arith
      go (parity l a b) = omega arith

  pub fourth_of : (x : ℕ) → x < 2 → (m : ℕ) → Of q m (parity_count_at q + x) → ⊥
  fourth_of x h m f = go (spot q m (parity_count_at q + x) f)
    where
      go : Spot q m (parity_count_at q + x) → ⊥
      go (revised l a b) = omega arith
      go (datum l a b) = omega (arith, data_column_in q m l)
      go (parity l a b) = omega arith

  -- ---- bytes of one column

  pub revision_byte_of : (x : ℕ) → x < 4 * q.k → Of q (x / 4) (revision_at 0 + x)
  revision_byte_of x h = let l : x / 4 < q.k = omega arith in inl (omega arith, omega (arith, carried_data q (x / 4) l))

  pub revision_only : (x : ℕ) → x < 4 * q.k → (m : ℕ) → Of q m (revision_at 0 + x) → m ≡ x / 4
  revision_only x h m f = go (spot q m (revision_at 0 + x) f)
    where
      go : Spot q m (revision_at 0 + x) → m ≡ x / 4
      go (revised l a b) = omega arith
      go (datum l a b) = absurd (omega arith)
      go (parity l a b) = absurd (omega arith)

  pub data_of : (x : ℕ) → x < q.k * column_length q → Of q (x / column_length q) (data_from q + x)
  data_of x h =
      let c : ℕ = column_length q in
      let l = row_below x q.k c h in
      inr (omega (arith, column_data q (x / c) l, low x q.k c h), omega (arith, column_data q (x / c) l, high x q.k c h))

  pub data_only : (x : ℕ) → x < q.k * column_length q → (m : ℕ) → Of q m (data_from q + x) → m ≡ x / column_length q
  data_only x h m f = go (spot q m (data_from q + x) f)
    where
      go : Spot q m (data_from q + x) → m ≡ x / column_length q
      go (revised l a b) = absurd (omega arith)
      go (datum l a b) = sym (row_is m x (column_length q) (omega arith) (omega arith))
      go (parity l a b) = absurd (omega arith)

  pub parity_of : (x : ℕ) → x < q.r * column_length q → Of q (q.k + x / column_length q) (parity_from q + x)
  parity_of x h =
      let c : ℕ = column_length q in
      let n : ℕ = q.k + x / c in
      let l : q.k ≤ n = omega arith in
      let z : n - q.k ≡ x / c = omega arith in
      let y : column_at q n ≡ parity_at q (x / c) = column_parity q n l ∙ ap (parity_at q) z in
      inr (omega (arith, y, low x q.r c h), omega (arith, y, high x q.r c h))

  pub parity_only : (x : ℕ) → x < q.r * column_length q → (m : ℕ) → Of q m (parity_from q + x) → m ≡ q.k + x / column_length q
  parity_only x h m f = go (spot q m (parity_from q + x) f)
    where
      go : Spot q m (parity_from q + x) → m ≡ q.k + x / column_length q
      go (revised l a b) = absurd (omega arith)
      go (datum l a b) = absurd (omega (arith, data_column_in q m l))
      go (parity l a b) = omega (arith, row_is (m - q.k) x (column_length q) (omega arith) (omega arith))

-- ---- where a byte of an image lies: in a count, or in a column

pub data Kind (q : Params) (o : ℕ) : Type 0 where
  heads : o < revision_at 0 → Kind q o
  revisions : (x : ℕ) → x < 4 * q.k → o ≡ revision_at 0 + x → Kind q o
  third : (x : ℕ) → x < 2 → o ≡ data_count_at q + x → Kind q o
  columns : (x : ℕ) → x < q.k * column_length q → o ≡ data_from q + x → Kind q o
  fourth : (x : ℕ) → x < 2 → o ≡ parity_count_at q + x → Kind q o
  parities : (x : ℕ) → x < q.r * column_length q → o ≡ parity_from q + x → Kind q o

pub kind : (q : Params) (o : ℕ) → o < image_length q → Kind q o
kind q o h = go (dec_lt o (revision_at 0)) (dec_lt o (data_count_at q)) (dec_lt o (data_from q)) (dec_lt o (parity_count_at q)) (dec_lt o (parity_from q))
  where
    go : Dec (o < revision_at 0) → Dec (o < data_count_at q) → Dec (o < data_from q) → Dec (o < parity_count_at q) → Dec (o < parity_from q) → Kind q o
    go (yes a) b c d e = heads a
    go (no a) (yes b) c d e = revisions (o - revision_at 0) (omega arith) (omega arith)
    go (no a) (no b) (yes c) d e = third (o - data_count_at q) (omega arith) (omega arith)
    go (no a) (no b) (no c) (yes d) e = columns (o - data_from q) (omega arith) (omega arith)
    go (no a) (no b) (no c) (no d) (yes e) = fourth (o - parity_count_at q) (omega arith) (omega arith)
    go (no a) (no b) (no c) (no d) (no e) = parities (o - parity_from q) (omega arith) (omega arith)
