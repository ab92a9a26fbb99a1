-- What is recovered solves the consulted parity equations of any image, and nothing else does.
-- Assumes nothing.
use Prim.Native.Nat.{ℕ, ◌+◌, ◌<◌, zero, suc}
use mathlib.Core.Bool.{Bool, true, false}
use mathlib.Core.List.{List, [], ◌∷◌, map}
use mathlib.Core.Path.{◌≡◌, sym, ap, ap₂, ◌∙◌, refl, fun_ext}
use native.Mathlib.Omega.{arith}
use lib.Dec.{T}
use lib.ListN.{length, get_or}
use Rattle.laws.proofs.Tab.{length_table, map_at}
use Rattle.laws.proofs.Xor.{⊕_assoc, ⊕_self, ⊕_zero}
use Rattle.laws.specs.Bit.{weight}
use Rattle.laws.specs.Choose.{choose}
use Rattle.laws.specs.Part.{table}
use Rattle.laws.specs.Xor.{◌⊕◌}
use Rattle.algebra.proofs.Column.{lane_at}
use Rattle.algebra.proofs.Encode.{decode_encode, encode_decode, encode_map}
use Rattle.algebra.proofs.Lost.{parity_split, same_length, all_lost}
use Rattle.algebra.proofs.Stored.{row_good}
use Rattle.algebra.specs.Cauchy.{row, Same}
use Rattle.algebra.specs.Code.{All, plus, none, encode, decode}
use Rattle.algebra.specs.Column.{lane}
use Rattle.algebra.specs.Divide.{over}
use Rattle.algebra.specs.Lane.{D}
use Rattle.algebra.specs.Recovery.{freed, kept, lost}
use Rattle.stripe.specs.Layout.{rows, data_byte, parity_byte}
use Rattle.stripe.specs.Params.{Admitted}
use Rattle.stripe.specs.declared.Params.{Params}
use Rattle.block.proofs.Touching.{lane_ext}
use Rattle.block.specs.Parity.{due}
use Rattle.pattern.proofs.Count.{length_consulted, length_lost, consulted_distinct, lost_distinct, lost_cross, weight_mark, weight_none, prime_rows}
use Rattle.rebuild.proofs.Decoded.{length_freed, freed_good, sum_row, lane_is, lane_good, good_table}
use Rattle.pattern.proofs.Marks.{kept_ext, count_lost, lost_at}
use Rattle.rebuild.proofs.Whole.{length_consulted_lanes, consulted_good, present_good, whole_due}
use Rattle.pattern.specs.Pattern.{few_lost, is_lost, lost_marks, lost_count, data_exponents, lost_exponents, present_exponents, consulted}
use Rattle.rebuild.specs.Lost.{consulted_lanes, present_lanes, recovered, whole_data}

-- ---- over plain lists

map_by : {A : Type 0} (l : List ℕ) (f g : ℕ → A) → ((v : ℕ) → v < length l → f (get_or l v 0) ≡ g (get_or l v 0)) → map f l ≡ map g l
map_by [] f g h = refl
map_by (a ∷ l) f g h = ap₂ ◌∷◌ (h 0 (omega arith)) (map_by l f g (λ v k. h (suc v) (omega arith)))

module _ (n : ℕ) where
  freed_at : (xs : List ℕ) (Cs : List (ℕ → ℕ)) (zs : List ℕ) (ss : List (ℕ → ℕ)) (v : ℕ) → v < length xs → length Cs ≡ length xs
      → get_or (freed n xs Cs zs ss) v none ≡ plus (get_or Cs v none) (row plus none (D n) (over n) (get_or xs v 0) zs ss)
  freed_at [] Cs zs ss v h e = absurd (omega arith)
  freed_at (x ∷ xs) [] zs ss v h e = absurd (omega arith)
  freed_at (x ∷ xs) (C ∷ Cs) zs ss zero h e = refl
  freed_at (x ∷ xs) (C ∷ Cs) zs ss (suc v) h e = freed_at xs Cs zs ss v (omega arith) (omega arith)

  -- the parities of all data, freed of the present, are those of the lost
  freed_lost : (m : List Bool) (xs ys : List ℕ) (ss : List (ℕ → ℕ)) → length ys ≡ length ss
      → freed n xs (encode n xs ys ss) (kept m ys) (kept m ss) ≡ encode n xs (lost m ys) (lost m ss)
  freed_lost m [] ys ss e = refl
  freed_lost m (x ∷ xs) ys ss e =
      let P : List ℕ → List (ℕ → ℕ) → ℕ → ℕ = row plus none (D n) (over n) x in
      ap₂ ◌∷◌
      (fun_ext (λ q.
      ap (λ (k : ℕ). k ⊕ P (kept m ys) (kept m ss) q) (parity_split n x m ys ss (same_length ys ss e) q)
      ∙ last_twice (P (lost m ys) (lost m ss) q) (P (kept m ys) (kept m ss) q)))
      (freed_lost m xs ys ss e)
    where
      last_twice : (a b : ℕ) → (a ⊕ b) ⊕ b ≡ a
      last_twice a b = ⊕_assoc a b b ∙ ap (λ (k : ℕ). a ⊕ k) (⊕_self b) ∙ ⊕_zero a

-- ---- over images

module _ (s : List ℕ) (q : Params) (m : ℕ) (a : Admitted q) (f : T (few_lost q m)) where
  same_exponents : Same (consulted q m) (lost_exponents q m)
  same_exponents = same_length (consulted q m) (lost_exponents q m) (length_consulted q m f ∙ sym (length_lost q m))

  -- the only even lanes whose parities are the consulted ones, freed of the present data
  pub recovered_only : (x : ℕ) (fs : List (ℕ → ℕ)) → All (rows q) fs → length fs ≡ lost_count q m
      → encode (rows q) (consulted q m) (lost_exponents q m) fs
      ≡ freed (rows q) (consulted q m) (consulted_lanes s q m x) (present_exponents q m) (present_lanes s q m x)
      → fs ≡ recovered s q m x
  unfolding recovered
  recovered_only x fs g l e =
      let small : rows q < 61 = omega arith in
      sym (decode_encode (rows q) small (prime_rows q a) (consulted q m) (lost_exponents q m) fs g same_exponents
      (same_length (lost_exponents q m) fs (length_lost q m ∙ sym l)) (consulted_distinct q m a) (lost_distinct q m a) (lost_cross q m a))
      ∙ ap (decode (rows q) (consulted q m) (lost_exponents q m)) e

  recovered_parities : (x : ℕ)
      → encode (rows q) (consulted q m) (lost_exponents q m) (recovered s q m x)
      ≡ freed (rows q) (consulted q m) (consulted_lanes s q m x) (present_exponents q m) (present_lanes s q m x)
  unfolding recovered
  recovered_parities x =
      let small : rows q < 61 = omega arith in
      let F : List (ℕ → ℕ) = freed (rows q) (consulted q m) (consulted_lanes s q m x) (present_exponents q m) (present_lanes s q m x) in
      let l : length F ≡ length (consulted q m) =
      length_freed (rows q) (consulted q m) (consulted_lanes s q m x) (present_exponents q m) (present_lanes s q m x) (length_consulted_lanes s q m x) in
      encode_decode (rows q) small (prime_rows q a) (consulted q m) (lost_exponents q m) F
      (freed_good (rows q) (consulted q m) (consulted_lanes s q m x) (present_exponents q m) (present_lanes s q m x) (consulted_good s q m x) (present_good s q m x))
      same_exponents (same_length (consulted q m) F (sym l)) (consulted_distinct q m a) (lost_distinct q m a) (lost_cross q m a)

  -- each consulted parity is that of the whole data
  pub recovered_solves : (v t x : ℕ) → v < lost_count q m → t < rows q
      → parity_byte s q (get_or (consulted q m) v 0) t x ≡ due q (whole_data s q m) (get_or (consulted q m) v 0) t x
  unfolding consulted_lanes
  recovered_solves v t x h k =
      let n : ℕ = rows q in
      let xs : List ℕ = consulted q m in
      let j : ℕ = get_or xs v 0 in
      let l : v < length xs = omega (arith, length_consulted q m f) in
      let P : List ℕ → List (ℕ → ℕ) → ℕ → ℕ = row plus none (D n) (over n) j in
      let Z : ℕ → ℕ = P (present_exponents q m) (present_lanes s q m x) in
      let C : ℕ → ℕ → ℕ = λ j. lane n (λ t. parity_byte s q j t x) in
      let solved : P (lost_exponents q m) (recovered s q m x) ≡ plus (C j) Z =
      sym (map_at (λ (y : ℕ). row plus none (D n) (over n) y (lost_exponents q m) (recovered s q m x)) xs none v l)
      ∙ ap (λ (r : List (ℕ → ℕ)). get_or r v none) (encode_map n xs (lost_exponents q m) (recovered s q m x) ∙ recovered_parities x)
      ∙ freed_at n xs (consulted_lanes s q m x) (present_exponents q m) (present_lanes s q m x) v l (length_consulted_lanes s q m x)
      ∙ ap (λ (y : ℕ → ℕ). plus y Z) (map_at C xs none v l) in
      sym (lane_at n (λ t. parity_byte s q j t x) t k)
      ∙ sym (⊕_zero (C j t))
      ∙ ap (λ (y : ℕ). C j t ⊕ y) (sym (⊕_self (Z t)))
      ∙ sym (⊕_assoc (C j t) (Z t) (Z t))
      ∙ ap (λ (y : ℕ → ℕ). y t ⊕ Z t) (sym solved)
      ∙ sym (whole_due s q m x f j t)

  -- and no other data do so: those that have the present bytes and the consulted parities are the whole data
  module _ (d : ℕ → ℕ → ℕ → ℕ) (x : ℕ)
      (there : (i t : ℕ) → i < q.k → t < rows q → is_lost m i ≡ false → d i t x ≡ data_byte s q i t x)
      (parities : (v t : ℕ) → v < lost_count q m → t < rows q → due q d (get_or (consulted q m) v 0) t x ≡ parity_byte s q (get_or (consulted q m) v 0) t x) where
    lanes : List (ℕ → ℕ)
    lanes = table q.k (λ i. lane (rows q) (λ t. d i t x))

    lanes_good : All (rows q) lanes
    unfolding lanes
    lanes_good = good_table (rows q) q.k (λ i. lane (rows q) (λ t. d i t x)) (λ i. lane_good (rows q) (λ t. d i t x))

    lanes_length : length (data_exponents q) ≡ length lanes
    unfolding lanes
    lanes_length = length_table q.k (λ i. q.r + i) ∙ sym (length_table q.k (λ i. lane (rows q) (λ t. d i t x)))

    one_parity : (v : ℕ) → v < length (consulted q m)
        → lane (rows q) (λ t. parity_byte s q (get_or (consulted q m) v 0) t x) ≡ row plus none (D (rows q)) (over (rows q)) (get_or (consulted q m) v 0) (data_exponents q) lanes
    unfolding lanes due
    one_parity v h =
        let j : ℕ = get_or (consulted q m) v 0 in
        lane_is (rows q) (λ t. parity_byte s q j t x) (row plus none (D (rows q)) (over (rows q)) j (data_exponents q) lanes) (row_good (rows q) j (data_exponents q) lanes lanes_good)
        (λ t k. sym (parities v t (omega (arith, length_consulted q m f)) k) ∙ sum_row (rows q) j q.k (λ i. q.r + i) (λ i. lane (rows q) (λ t. d i t x)) t)

    all_parities : encode (rows q) (consulted q m) (data_exponents q) lanes ≡ consulted_lanes s q m x
    unfolding consulted_lanes
    all_parities =
        let P : ℕ → ℕ → ℕ = λ j. row plus none (D (rows q)) (over (rows q)) j (data_exponents q) lanes in
        sym (map_by (consulted q m) (λ j. lane (rows q) (λ t. parity_byte s q j t x)) P one_parity ∙ encode_map (rows q) (consulted q m) (data_exponents q) lanes)

    all_present : kept (lost_marks q m) lanes ≡ present_lanes s q m x
    unfolding lanes present_lanes
    all_present =
        kept_ext q.k (is_lost m) (λ i. lane (rows q) (λ t. d i t x)) (λ i. lane (rows q) (λ t. data_byte s q i t x))
        (λ i h e. lane_ext (rows q) (λ t. d i t x) (λ t. data_byte s q i t x) (λ t k. there i t h k e))

    all_recovered : lost (lost_marks q m) lanes ≡ recovered s q m x
    unfolding lost_exponents present_exponents lanes
    all_recovered =
        recovered_only x (lost (lost_marks q m) lanes) (all_lost (rows q) (lost_marks q m) lanes lanes_good) count
        (sym (freed_lost (rows q) (lost_marks q m) (consulted q m) (data_exponents q) lanes lanes_length)
        ∙ ap₂ (λ (C S : List (ℕ → ℕ)). freed (rows q) (consulted q m) C (present_exponents q m) S) all_parities all_present)
      where
        count : length (lost (lost_marks q m) lanes) ≡ lost_count q m
        count = omega (arith, count_lost q.k (is_lost m) (λ i. lane (rows q) (λ t. d i t x)) (weight m) (weight_mark m), weight_none m)

    pub whole_only : (i t : ℕ) → i < q.k → t < rows q → whole_data s q m i t x ≡ d i t x
    unfolding whole_data lanes
    whole_only i t h k = go (is_lost m i) refl
      where
        go : (b : Bool) → is_lost m i ≡ b → choose b (get_or (recovered s q m x) (weight m i) none t) (data_byte s q i t x) ≡ d i t x
        go true e =
            ap (λ (l : List (ℕ → ℕ)). get_or l (weight m i) none t) (sym all_recovered)
            ∙ ap (λ (y : ℕ → ℕ). y t) (lost_at q.k (is_lost m) (λ i. lane (rows q) (λ t. d i t x)) none (weight m) (weight_mark m) i (weight m i) h e (omega (arith, weight_none m)))
            ∙ lane_at (rows q) (λ t. d i t x) t k
        go false e = sym (there i t h k e)
