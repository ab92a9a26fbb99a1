-- The words of a lost column, acting on the consulted columns of any image, give what rebuilding puts there.
-- Assumes nothing.
use Prim.Native.Nat.{ℕ, ◌+◌, ◌-◌, ◌*◌, ◌<◌, ◌≤◌, suc}
use mathlib.Core.Bool.{true}
use mathlib.Core.List.{List, ◌++◌, map, map-append, map-map}
use mathlib.Core.Path.{◌≡◌, sym, ap, ap₂, ◌∙◌, refl}
use native.Mathlib.Decide.{dec_lt}
use native.Mathlib.Omega.{arith}
use lib.Dec.{T}
use lib.ListN.{get_or, length}
use borrow.Author.Tests.{lt-ltb, le-ltb}
use Rattle.laws.proofs.Tab.{table_ext, map_table}
use Rattle.laws.specs.Bit.{weight}
use Rattle.algebra.specs.Code.{none}
use Rattle.algebra.specs.Column.{lane}
use Rattle.algebra.specs.Recovery.{kept, acting}
use Rattle.stripe.specs.Layout.{rows, data_at, parity_at}
use Rattle.stripe.specs.Params.{Admitted}
use Rattle.stripe.specs.declared.Params.{Params}
use Rattle.block.specs.Parity.{due}
use Rattle.engine.proofs.Masked.{taken_acting}
use Rattle.engine.specs.Strips.{taken}
use Rattle.pattern.proofs.Count.{prime_next, length_consulted, length_lost, present_cross, prime_rows}
use Rattle.rebuild.proofs.Decoded.{data_acting, parity_acting}
use Rattle.pattern.proofs.Marks.{map_kept}
use Rattle.rebuild.proofs.Whole.{length_consulted_lanes, consulted_good, present_good, whole_due}
use Rattle.pattern.specs.Pattern.{few_lost, is_lost, lost_marks, data_exponents, lost_exponents, present_exponents, consulted}
use Rattle.rebuild.specs.Lost.{consulted_lanes, present_lanes, recovered, whole_data, whole_parity, whole_byte}
use Rattle.recovery.specs.Words.{places, matrix_row, row_words, data_words, parity_row, parity_words, column_words}

-- the columns at the places are the consulted lanes and the present ones
place_lanes : (s : List ℕ) (q : Params) (m x : ℕ)
    → map (λ (at : ℕ). lane (rows q) (λ t. get_or s (at + t * q.b + x) 0)) (places q m) ≡ consulted_lanes s q m x ++ present_lanes s q m x
unfolding places consulted_lanes present_lanes present_exponents
place_lanes s q m x =
    let F : ℕ → ℕ → ℕ = λ at. lane (rows q) (λ t. get_or s (at + t * q.b + x) 0) in
    let G : ℕ → ℕ = λ z. data_at q (z - q.r) in
    map-append F (map (parity_at q) (consulted q m)) (map G (present_exponents q m))
    ∙ ap₂ ◌++◌
    (map-map F (parity_at q) (consulted q m))
    (map-map F G (present_exponents q m)
    ∙ map_kept (λ (z : ℕ). F (G z)) (lost_marks q m) (data_exponents q)
    ∙ ap (kept (lost_marks q m))
    (map_table (λ (z : ℕ). F (G z)) q.k (λ i. q.r + i)
    ∙ table_ext q.k (λ i. F (G (q.r + i))) (λ i. F (data_at q i)) (λ i h. let e : q.r + i - q.r ≡ i = omega arith in ap (λ (o : ℕ). F (data_at q o)) e)))

module _ (s : List ℕ) (q : Params) (m : ℕ) (a : Admitted q) (f : T (few_lost q m)) where
  small : rows q < 61
  small = omega arith

  same : length (consulted q m) ≡ length (lost_exponents q m)
  same = length_consulted q m f ∙ sym (length_lost q m)

  -- lost data column number u of the lost ones
  pub data_words_right : (u t x : ℕ)
      → taken q.p s q.b t (places q m) (data_words q.p (consulted q m) (lost_exponents q m) (present_exponents q m) u) x ≡ get_or (recovered s q m x) u none t
  unfolding data_words row_words matrix_row recovered
  data_words_right u t x =
      let n : ℕ = rows q in
      let xs : List ℕ = consulted q m in
      let ys : List ℕ = lost_exponents q m in
      let zs : List ℕ = present_exponents q m in
      let Cs : List (ℕ → ℕ) = consulted_lanes s q m x in
      let ss : List (ℕ → ℕ) = present_lanes s q m x in
      ap (λ (p : ℕ). taken p s q.b t (places q m) (data_words p xs ys zs u) x) (prime_next q a)
      ∙ taken_acting n s q.b t (places q m) (data_words (suc n) xs ys zs u) x
      ∙ ap (λ (l : List (ℕ → ℕ)). acting n (data_words (suc n) xs ys zs u) l t) (place_lanes s q m x)
      ∙ data_acting n small (prime_rows q a) (length ys) xs ys zs Cs ss same refl (length_consulted_lanes s q m x ∙ same)
      (present_cross q m a) (consulted_good s q m x) (present_good s q m x) (matrix_row (suc n) xs ys u) u t refl

  -- any parity column j
  pub parity_words_right : (j t x : ℕ)
      → taken q.p s q.b t (places q m) (parity_words q.p (consulted q m) (lost_exponents q m) (present_exponents q m) j) x ≡ due q (whole_data s q m) j t x
  unfolding parity_words parity_row matrix_row recovered
  parity_words_right j t x =
      let n : ℕ = rows q in
      let xs : List ℕ = consulted q m in
      let ys : List ℕ = lost_exponents q m in
      let zs : List ℕ = present_exponents q m in
      let Cs : List (ℕ → ℕ) = consulted_lanes s q m x in
      let ss : List (ℕ → ℕ) = present_lanes s q m x in
      ap (λ (p : ℕ). taken p s q.b t (places q m) (parity_words p xs ys zs j) x) (prime_next q a)
      ∙ taken_acting n s q.b t (places q m) (parity_words (suc n) xs ys zs j) x
      ∙ ap (λ (l : List (ℕ → ℕ)). acting n (parity_words (suc n) xs ys zs j) l t) (place_lanes s q m x)
      ∙ parity_acting n small (prime_rows q a) (length ys) xs ys zs Cs ss same refl (length_consulted_lanes s q m x ∙ same)
      (present_cross q m a) (consulted_good s q m x) (present_good s q m x) (parity_row (suc n) xs ys j) j t refl
      ∙ sym (whole_due s q m x f j t)

  -- any lost column n
  pub words_right : (n t x : ℕ) → is_lost m n ≡ true → taken q.p s q.b t (places q m) (column_words q m n) x ≡ whole_byte s q m n t x
  unfolding column_words whole_byte whole_data whole_parity
  words_right n t x e = go (dec_lt n q.k)
    where
      go : Dec (n < q.k) → taken q.p s q.b t (places q m) (column_words q m n) x ≡ whole_byte s q m n t x
      go (yes h) = rw (lt-ltb n q.k h, e) (data_words_right (weight m n) t x)
      go (no h) =
          let l : q.k ≤ n = omega arith in
          let z : q.k + (n - q.k) ≡ n = omega arith in
          rw (le-ltb n q.k l, z, e) (parity_words_right (n - q.k) t x)
