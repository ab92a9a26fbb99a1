-- The bytes of an image in which one column was put: which they are, and that the others stay.
-- Assumes nothing.
use Prim.Native.Nat.{ℕ, ◌+◌, ◌*◌, ◌<◌, ◌≤◌}
use mathlib.Core.List.{List}
use mathlib.Core.Logic.{◌⊎◌, inl, inr}
use mathlib.Core.Path.{◌≡◌, ap, ◌∙◌}
use native.Mathlib.Decide.{dec_lt}
use native.Mathlib.Omega.{arith}
use lib.ListN.{length, get_or}
use Rattle.laws.proofs.Part.{length_put, get_or_put_before, get_or_put_in, get_or_put_after}
use Rattle.laws.proofs.Place.{Place, place, before, inside, after}
use Rattle.laws.specs.Part.{put}
use Rattle.stripe.proofs.Places.{revision_in}
use Rattle.stripe.specs.Layout.{column_length, revision_at, image_length}
use Rattle.stripe.specs.declared.Params.{Params}
use Rattle.column_file.proofs.Columns.{carried_data, carried_parity, column_in}
use Rattle.column_file.proofs.Writing.{put_empty}
use Rattle.column_file.specs.File.{column_at, carried}
use Rattle.filling.specs.Filled.{put_column}

-- o is one of the n places from at
abbrev pub Within : ℕ → ℕ → ℕ → Type 0
Within at n o = (at ≤ o) × (o < at + n)

-- byte o of an image is one of column n
abbrev pub Of : Params → ℕ → ℕ → Type 0
Of q n o = Within (revision_at n) (4 * carried q n) o ⊎ Within (column_at q n) (column_length q) o

-- what byte o is once r and v were put in the place of column n's, in whatever image: one of these, and then Is, or what it was
pub data Byte (q : Params) (n : ℕ) (r v : List ℕ) (Is : ℕ → Type 0) (o : ℕ) : Type 0 where
  inner : (x : ℕ) → Is x → Of q n o → ((t : List ℕ) → length t ≡ image_length q → get_or (put_column q n r v t) o 0 ≡ x) → Byte q n r v Is o
  outer : (Of q n o → ⊥) → ((t : List ℕ) → length t ≡ image_length q → get_or (put_column q n r v t) o 0 ≡ get_or t o 0) → Byte q n r v Is o

-- where the column's bytes are all as y says: one of the column is y then, and one that was y stays so
module _ (q : Params) (n : ℕ) (r v : List ℕ) (o y : ℕ) (t : List ℕ) (l : length t ≡ image_length q) where
  pub put_there : Byte q n r v (λ x. x ≡ y) o → Of q n o → get_or (put_column q n r v t) o 0 ≡ y
  put_there (inner x e w g) f = g t l ∙ e
  put_there (outer w g) f = absurd (w f)

  pub put_stays : Byte q n r v (λ x. x ≡ y) o → get_or t o 0 ≡ y → get_or (put_column q n r v t) o 0 ≡ y
  put_stays (inner x e w g) z = g t l ∙ e
  put_stays (outer w g) z = g t l ∙ z

-- revisions r and strips v in the place of column n's
module _ (q : Params) (n : ℕ) (r v : List ℕ) (h : n < q.k + q.r) (lr : length r ≡ 4 * carried q n) (lv : length v ≡ column_length q) where
  revised : List ℕ → List ℕ
  revised t = put t (revision_at n) r

  room : (t : List ℕ) → length t ≡ image_length q → n < q.k → revision_at n + length r ≤ length t
  room t l d = omega (arith, lr, carried_data q n d, revision_in q n d)

  no_revisions : q.k ≤ n → length r ≡ 0
  no_revisions p = omega (arith, lr, carried_parity q n p)

  pub length_revised : (t : List ℕ) → length t ≡ image_length q → length (put t (revision_at n) r) ≡ image_length q
  length_revised t l = go (dec_lt n q.k)
    where
      go : Dec (n < q.k) → length (put t (revision_at n) r) ≡ image_length q
      go (yes d) = length_put t (revision_at n) r (room t l d) ∙ l
      go (no d) = ap length (put_empty t r (revision_at n) (no_revisions (omega arith))) ∙ l

  fits : (t : List ℕ) → length t ≡ image_length q → column_at q n + length v ≤ length (revised t)
  unfolding revised
  fits t l = omega (arith, lv, length_revised t l, column_in q n h)

  pub length_put_column : (t : List ℕ) → length t ≡ image_length q → length (put_column q n r v t) ≡ image_length q
  unfolding put_column revised
  length_put_column t l = length_put (revised t) (column_at q n) v (fits t l) ∙ length_revised t l

  -- outside the strips only the revisions are put
  beside : (o : ℕ) → (Within (column_at q n) (column_length q) o → ⊥) → (t : List ℕ) → length t ≡ image_length q → get_or (put_column q n r v t) o 0 ≡ get_or (revised t) o 0
  unfolding put_column revised
  beside o w t l = go (place (column_at q n) (column_length q) o)
    where
      go : Place (column_at q n) (column_length q) o → get_or (put_column q n r v t) o 0 ≡ get_or (revised t) o 0
      go (before a) = get_or_put_before (revised t) (column_at q n) v (fits t l) o a
      go (inside i a e) = absurd (w (omega arith, omega arith))
      go (after a) = get_or_put_after (revised t) (column_at q n) v (fits t l) o (omega (arith, lv))

  in_revisions : (i : ℕ) → i < 4 * carried q n → (t : List ℕ) → length t ≡ image_length q → get_or (revised t) (revision_at n + i) 0 ≡ get_or r i 0
  unfolding revised
  in_revisions i b t l = go (dec_lt n q.k)
    where
      go : Dec (n < q.k) → get_or (put t (revision_at n) r) (revision_at n + i) 0 ≡ get_or r i 0
      go (yes d) = get_or_put_in t (revision_at n) r (room t l d) i (omega (arith, lr))
      go (no d) = absurd (omega (arith, lr, no_revisions (omega arith)))

  off_revisions : (o : ℕ) → (Within (revision_at n) (4 * carried q n) o → ⊥) → (t : List ℕ) → length t ≡ image_length q → get_or (revised t) o 0 ≡ get_or t o 0
  unfolding revised
  off_revisions o w t l = go (dec_lt n q.k) (place (revision_at n) (4 * carried q n) o)
    where
      go : Dec (n < q.k) → Place (revision_at n) (4 * carried q n) o → get_or (put t (revision_at n) r) o 0 ≡ get_or t o 0
      go (yes d) (before a) = get_or_put_before t (revision_at n) r (room t l d) o a
      go (yes d) (inside i a e) = absurd (w (omega arith, omega arith))
      go (yes d) (after a) = get_or_put_after t (revision_at n) r (room t l d) o (omega (arith, lr))
      go (no d) p = ap (λ (x : List ℕ). get_or x o 0) (put_empty t r (revision_at n) (no_revisions (omega arith)))

  -- Is says what the bytes of r and v are where they stand
  module _ (Is : ℕ → ℕ → Type 0) (rs : (i : ℕ) → i < 4 * carried q n → Is (revision_at n + i) (get_or r i 0))
      (vs : (i : ℕ) → i < column_length q → Is (column_at q n + i) (get_or v i 0)) where
    pub byte : (o : ℕ) → Byte q n r v (Is o) o
    unfolding put_column revised
    byte o = go (place (column_at q n) (column_length q) o) (place (revision_at n) (4 * carried q n) o)
      where
        neither : (Within (column_at q n) (column_length q) o → ⊥) → (Within (revision_at n) (4 * carried q n) o → ⊥) → Byte q n r v (Is o) o
        neither w u = outer (λ f. apart f) (λ t l. beside o w t l ∙ off_revisions o u t l)
          where
            apart : Of q n o → ⊥
            apart (inl a) = u a
            apart (inr b) = w b

        others : (Within (column_at q n) (column_length q) o → ⊥) → Place (revision_at n) (4 * carried q n) o → Byte q n r v (Is o) o
        others w (inside i b e) =
            inner (get_or r i 0) (rw e (rs i b)) (inl (omega arith, omega arith)) (λ t l. beside o w t l ∙ ap (λ (x : ℕ). get_or (revised t) x 0) e ∙ in_revisions i b t l)
        others w (before a) = neither w (λ u. omega (arith, u.0))
        others w (after a) = neither w (λ u. omega (arith, u.1))

        go : Place (column_at q n) (column_length q) o → Place (revision_at n) (4 * carried q n) o → Byte q n r v (Is o) o
        go (inside i b e) p =
            inner (get_or v i 0) (rw e (vs i b)) (inr (omega arith, omega arith))
            (λ t l. ap (λ (x : ℕ). get_or (put (revised t) (column_at q n) v) x 0) e ∙ get_or_put_in (revised t) (column_at q n) v (fits t l) i (omega (arith, lv)))
        go (before a) p = others (λ u. omega (arith, u.0)) p
        go (after a) p = others (λ u. omega (arith, u.1)) p
