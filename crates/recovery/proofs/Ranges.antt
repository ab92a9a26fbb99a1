-- As many words and places as there are data columns, and each place is that of a column in the image.
-- Assumes nothing.
use Prim.Native.Nat.{ℕ, ◌+◌, ◌-◌, ◌<◌, ◌≤◌}
use mathlib.Core.Bool.{Bool, true, false}
use mathlib.Core.List.{List, ◌++◌, map}
use mathlib.Core.Path.{◌≡◌, sym, ap, subst, ◌∙◌}
use native.Mathlib.Omega.{arith}
use lib.Dec.{T, ltb}
use lib.ListN.{length, get_or, take, drop, length-append, length-map}
use borrow.Rule.Slice.PartMut.{put_mid}
use Rattle.laws.proofs.Tab.{map_at}
use Rattle.laws.specs.Bit.{weight}
use Rattle.laws.specs.Choose.{choose}
use Rattle.laws.specs.Xor.{◌⊕◌}
use Rattle.algebra.specs.Recovery.{with, row_of}
use Rattle.algebra.specs.Word.{inverse_of}
use Rattle.stripe.proofs.Places.{parity_column_in, data_column_in, parity_in}
use Rattle.stripe.specs.Layout.{data_at, parity_at, column_length, image_length}
use Rattle.stripe.specs.declared.Params.{Params}
use Rattle.pattern.proofs.Count.{length_lost, length_present, length_consulted, rising_at, consulted_rising, present_rising}
use Rattle.pattern.specs.Pattern.{few_lost, lost_exponents, present_exponents, consulted}
use Rattle.recovery.proofs.Extending.{length_matrix_row, length_parity_row, length_with}
use Rattle.recovery.proofs.Placing.{append_each}
use Rattle.recovery.proofs.Sourcing.{first_of}
use Rattle.recovery.specs.Words.{places, matrix_row, row_words, data_words, parity_row, parity_words, column_words}

module _ (p : ℕ) (xs ys zs : List ℕ) where
  length_data_words : (u : ℕ) → length (data_words p xs ys zs u) ≡ length ys + length zs
  unfolding data_words row_words
  length_data_words u =
      let W : ℕ → ℕ = λ z. row_of p z xs (matrix_row p xs ys u) in
      length-append (matrix_row p xs ys u) (map W zs) ∙ omega (arith, length_matrix_row p xs ys u, length-map zs W)

  length_parity_words : (j : ℕ) → length (parity_words p xs ys zs j) ≡ length ys + length zs
  unfolding parity_words
  length_parity_words j =
      let W : ℕ → ℕ = λ z. row_of p z xs (parity_row p xs ys j) in
      let I : ℕ → ℕ = inverse_of p j in
      length-append (parity_row p xs ys j) (with ◌⊕◌ (map W zs) (map I zs))
      ∙ omega (arith, length_parity_row p xs ys j, length_with (map W zs) (map I zs) (length-map zs I ∙ sym (length-map zs W)), length-map zs W)

module _ (q : Params) (m : ℕ) where
  pub length_column_words : (n : ℕ) → length (column_words q m n) ≡ q.k
  unfolding column_words
  length_column_words n = go (ltb n q.k) ∙ omega (arith, length_lost q m, length_present q m)
    where
      go : (b : Bool)
          → length (choose b (data_words q.p (consulted q m) (lost_exponents q m) (present_exponents q m) (weight m n)) (parity_words q.p (consulted q m) (lost_exponents q m) (present_exponents q m) (n - q.k)))
          ≡ length (lost_exponents q m) + length (present_exponents q m)
      go true = length_data_words q.p (consulted q m) (lost_exponents q m) (present_exponents q m) (weight m n)
      go false = length_parity_words q.p (consulted q m) (lost_exponents q m) (present_exponents q m) (n - q.k)

  pub length_places : T (few_lost q m) → length (places q m) ≡ q.k
  unfolding places
  length_places f =
      let G : ℕ → ℕ = λ z. data_at q (z - q.r) in
      length-append (map (parity_at q) (consulted q m)) (map G (present_exponents q m))
      ∙ omega (arith, length-map (consulted q m) (parity_at q), length-map (present_exponents q m) G, length_consulted q m f, length_present q m)

-- ---- as arrays v and w have them in their first places

-- as code lends the part from place 0
lent_front : (l w : List ℕ) (k : ℕ) → length l ≡ k → take (k - 0) (put_mid 0 (k - 0) w l) ≡ l
lent_front l w k e = let z : k - 0 ≡ k = omega arith in ap (λ (j : ℕ). take j (l ++ drop j w)) z ∙ (first_of l w k e).0

module _ (q : Params) (m : ℕ) (v ats : List ℕ) (f : T (few_lost q m)) (A : ats ≡ places q m) where
  pub places_lent : take (q.k - 0) (put_mid 0 (q.k - 0) v ats) ≡ places q m
  places_lent = lent_front ats v q.k (ap length A ∙ length_places q m f) ∙ A

module _ (q : Params) (m n : ℕ) (w ws : List ℕ) (W : ws ≡ column_words q m n) where
  pub words_lent : take (q.k - 0) (put_mid 0 (q.k - 0) w ws) ≡ column_words q m n
  words_lent = lent_front ws w q.k (ap length W ∙ length_column_words q m n) ∙ W

-- ---- each place is that of a column

pub places_inside : (q : Params) (m v : ℕ) → v < length (places q m) → get_or (places q m) v 0 + column_length q ≤ image_length q
unfolding places
places_inside q m v h =
    let xs : List ℕ = consulted q m in
    let zs : List ℕ = present_exponents q m in
    let G : ℕ → ℕ = λ z. data_at q (z - q.r) in
    let In : ℕ → Type 0 = λ x. x + column_length q ≤ image_length q in
    append_each In (map (parity_at q) xs) (map G zs)
    (λ v k.
    let l : v < length xs = rw (length-map xs (parity_at q)) at k in
    subst In (sym (map_at (parity_at q) xs 0 v l)) (parity_column_in q (get_or xs v 0) (rising_at 0 q.r xs (consulted_rising q m) v l).1))
    (λ v k.
    let l : v < length zs = rw (length-map zs G) at k in
    let z = rising_at q.r (q.r + q.k) zs (present_rising q m) v l in
    let b : get_or zs v 0 - q.r < q.k = omega arith in
    subst In (sym (map_at G zs 0 v l)) (omega (arith, data_column_in q (get_or zs v 0 - q.r) b, parity_in q)))
    v h
