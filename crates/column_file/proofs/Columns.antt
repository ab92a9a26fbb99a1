-- A column by its kind, and the length of its file.
-- Assumes nothing.
use Prim.Native.Nat.{ℕ, ◌+◌, ◌-◌, ◌*◌, ◌<◌, ◌≤◌}
use mathlib.Core.Bool.{Bool, true, false}
use mathlib.Core.List.{List}
use mathlib.Core.Path.{◌≡◌, refl, sym, ◌∙◌}
use native.Mathlib.Decide.{dec_lt}
use native.Mathlib.Omega.{arith}
use lib.Dec.{leb, ltb}
use lib.ListN.{length, length-append}
use mir.Val.{bool_byte}
use borrow.Author.Tests.{lt-ltb, le-ltb, lt-leb, le-leb}
use Rattle.laws.proofs.Part.{length_part}
use Rattle.laws.proofs.Tab.{length_tab}
use Rattle.laws.specs.Choose.{choose}
use Rattle.laws.specs.Part.{part}
use Rattle.stripe.proofs.Places.{data_column_in, parity_column_in, revision_in}
use Rattle.stripe.specs.Layout.{column_length, revision_at, data_at, parity_at, image_length}
use Rattle.stripe.specs.Reading.{Image}
use Rattle.stripe.specs.declared.Params.{Params}
use Rattle.column_file.specs.File.{column_at, flag, carried, file_length, file_holding, revisions_of, strips_of, file_of}

module _ (q : Params) (n : ℕ) where
  module _ (h : n < q.k) where
    pub column_data : column_at q n ≡ data_at q n
    unfolding column_at
    column_data = simp (lt-ltb n q.k h)

    pub carried_data : carried q n ≡ 1
    unfolding carried
    carried_data = simp (lt-ltb n q.k h)

    pub data_place : (x : ℕ) → x ≡ data_at q n → x ≡ column_at q n
    data_place x e = e ∙ sym column_data

  module _ (h : q.k ≤ n) where
    pub column_parity : column_at q n ≡ parity_at q (n - q.k)
    unfolding column_at
    column_parity = simp (le-ltb n q.k h)

    pub carried_parity : carried q n ≡ 0
    unfolding carried
    carried_parity = simp (le-ltb n q.k h)

    pub parity_place : (x : ℕ) → x ≡ parity_at q (n - q.k) → x ≡ column_at q n
    parity_place x e = e ∙ sym column_parity

  -- 1 for parity, as a test gives it; 1 for data
  pub flag_told : (x : ℕ) → x ≡ bool_byte (leb q.k n) → x ≡ flag q n
  unfolding flag
  flag_told x e = e ∙ go (dec_lt n q.k)
    where
      go : Dec (n < q.k) → bool_byte (leb q.k n) ≡ choose (ltb n q.k) 0 1
      go (yes h) = rw (lt-leb q.k n h, lt-ltb n q.k h)
      go (no h) = let g : q.k ≤ n = omega arith in rw (le-leb q.k n g, le-ltb n q.k g)

  pub carried_told : (x : ℕ) → x ≡ bool_byte (ltb n q.k) → x ≡ carried q n
  unfolding carried
  carried_told x e = e ∙ go (ltb n q.k)
    where
      go : (b : Bool) → bool_byte b ≡ choose b 1 0
      go true = refl
      go false = refl

  pub carried_small : carried q n ≤ 1
  unfolding carried
  carried_small = go (ltb n q.k)
    where
      go : (b : Bool) → choose b 1 0 ≤ 1
      go true = omega arith
      go false = omega arith

  pub flag_small : flag q n ≤ 1
  unfolding flag
  flag_small = go (ltb n q.k)
    where
      go : (b : Bool) → choose b 0 1 ≤ 1
      go true = omega arith
      go false = omega arith

  pub column_in : n < q.k + q.r → column_at q n + column_length q ≤ image_length q
  column_in h = go (dec_lt n q.k)
    where
      go : Dec (n < q.k) → column_at q n + column_length q ≤ image_length q
      go (yes l) = rw (column_data l) (omega (arith, data_column_in q n l))
      go (no l) = let g : q.k ≤ n = omega arith in rw (column_parity g) (parity_column_in q (n - q.k) (omega arith))

  pub length_file_of : (a b : List ℕ) → length a ≡ 4 * carried q n → length b ≡ column_length q → length (file_holding q n a b) ≡ file_length q n
  unfolding file_holding
  length_file_of a b la lb = simp (length-append, length_tab) (omega arith)

module _ (s : List ℕ) (q : Params) (i : Image s q) (n : ℕ) (h : n < q.k + q.r) where
  pub length_revisions : length (revisions_of s q n) ≡ 4 * carried q n
  unfolding part
  length_revisions = go (dec_lt n q.k)
    where
      go : Dec (n < q.k) → length (revisions_of s q n) ≡ 4 * carried q n
      go (yes l) = rw (carried_data q n l) (length_part s (revision_at n) 4 (omega (arith, revision_in q n l, i.len)))
      go (no l) = let g : q.k ≤ n = omega arith in rw (carried_parity q n g) refl

  pub length_strips : length (strips_of s q n) ≡ column_length q
  length_strips = length_part s (column_at q n) (column_length q) (omega (arith, i.len, column_in q n h))

  pub length_file : length (file_of s q n) ≡ file_length q n
  unfolding file_of
  length_file = length_file_of q n _ _ length_revisions length_strips
