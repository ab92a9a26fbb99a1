-- The transposed system: its solution for the words a is the row by which a sum of word · unknown is one of word · right side. So row u of the
-- recovery matrix is one solution, and so is the row of a lost parity column.
-- Assumes nothing.
use Prim.Native.Nat.{ℕ, zero, suc, ◌<◌, ◌^◌}
use mathlib.Core.List.{List, [], ◌∷◌, map}
use mathlib.Core.Path.{◌≡◌, sym, ap, ◌∙◌, subst, fun_ext}
use native.Mathlib.Omega.{arith}
use lib.Dec.{T}
use lib.ListN.{length, get_or, length-map, get_or-map}
use lib.Pow.{pow_pos}
use Rattle.laws.proofs.Tab.{get_or_table, map_table, table_ext, table_is, is_tab}
use Rattle.laws.specs.Bit.{bit, pack}
use Rattle.laws.specs.Part.{table}
use Rattle.laws.specs.Sum.{sum}
use Rattle.algebra.proofs.Action.{act_word_zero, act_word_one}
use Rattle.algebra.proofs.Bounds.{inverse_lt, row_lt, solve_lt}
use Rattle.algebra.proofs.Column.{act_ext}
use Rattle.algebra.proofs.Composed.{present_words}
use Rattle.algebra.proofs.Consulted.{acting_all, acting_rows}
use Rattle.algebra.proofs.Encode.{encode_decode, encode_map}
use Rattle.algebra.proofs.Inverted.{one_good, units_good, unit_lt, row_solve}
use Rattle.algebra.proofs.Lane.{act_swap}
use Rattle.algebra.proofs.Lanes.{lanes_row, lanes_solve}
use Rattle.algebra.proofs.Linear.{act_none}
use Rattle.algebra.proofs.Lost.{same_length}
use Rattle.algebra.proofs.Solves.{sum_one, all_periodic, all_even, unit_on, unit_off, length_unit}
use Rattle.algebra.proofs.Stored.{decode_good, length_decode}
use Rattle.algebra.proofs.Word.{lane_of_zero, lane_of_periodic, lane_of_digit, lane_of_at, pack_lane_of}
use Rattle.algebra.proofs.Words.{over_even, inverse_is}
use Rattle.algebra.specs.Cauchy.{Off, Distinct, Cross}
use Rattle.algebra.specs.Code.{All, none, decode}
use Rattle.algebra.specs.Lane.{Even, act, Apart}
use Rattle.algebra.specs.Prime.{odd_prime}
use Rattle.algebra.specs.Recovery.{row_of, solve_of, unit_of, entry_of, words_of, composed_of, acting}
use Rattle.algebra.specs.Word.{lane_of, inverse_of, one}

-- ---- the exponents swapped

apart_swap : (p a b : ℕ) → Apart p a b → Apart p b a
apart_swap p a b h = (h.1, h.0, λ e. h.2 (sym e))

cross_head : (p : ℕ) (xs : List ℕ) (y : ℕ) (ys : List ℕ) → Cross (Apart p) xs (y ∷ ys) → Off (Apart p) y xs
cross_head p [] y ys c = tt
cross_head p (x ∷ xs) y ys c = (apart_swap p x y c.0.0, cross_head p xs y ys c.1)

cross_tail : (p : ℕ) (xs : List ℕ) (y : ℕ) (ys : List ℕ) → Cross (Apart p) xs (y ∷ ys) → Cross (Apart p) xs ys
cross_tail p [] y ys c = tt
cross_tail p (x ∷ xs) y ys c = (c.0.1, cross_tail p xs y ys c.1)

pub cross_swap : (p : ℕ) (xs ys : List ℕ) → Cross (Apart p) xs ys → Cross (Apart p) ys xs
cross_swap p xs [] c = tt
cross_swap p xs (y ∷ ys) c = (cross_head p xs y ys c, cross_swap p xs ys (cross_tail p xs y ys c))

module _ (n : ℕ) where
  pub length_solve : (xs ys ws : List ℕ) → length ys ≡ length xs → length ws ≡ length xs → length (solve_of (suc n) xs ys ws) ≡ length xs
  length_solve xs ys ws e f =
      sym (length-map (solve_of (suc n) xs ys ws) (lane_of (suc n)))
      ∙ ap length (lanes_solve n xs ys ws)
      ∙ length_decode n xs ys (map (lane_of (suc n)) ws) e (length-map ws (lane_of (suc n)) ∙ f)

  -- words of one lane are one word
  lane_word : (u w : ℕ) → u < 2 ^ suc n → w < 2 ^ suc n → lane_of (suc n) u ≡ lane_of (suc n) w → u ≡ w
  lane_word u w a b e = sym (pack_lane_of (suc n) u a) ∙ ap (pack (suc n)) e ∙ pack_lane_of (suc n) w b

  module _ (small : n < 61) where
    -- a word of even weight is what it takes of e
    lane_one : (w : ℕ) → Even n (lane_of (suc n) w) → (q : ℕ) → act n (bit w) (lane_of (suc n) (one (suc n))) q ≡ lane_of (suc n) w q
    lane_one w h q =
        let e : ℕ → ℕ = lane_of (suc n) (one (suc n)) in
        let l : ℕ → ℕ = lane_of (suc n) w in
        act_ext n (bit w) l e (λ i k. sym (lane_of_at (suc n) w i k)) q
        ∙ act_swap n l e (lane_of_periodic (suc n) w) (lane_of_periodic (suc n) (one (suc n))) (lane_of_digit (suc n) w) (lane_of_digit (suc n) (one (suc n))) q
        ∙ act_ext n e (bit (one (suc n))) l (λ i k. lane_of_at (suc n) (one (suc n)) i k) q
        ∙ act_word_one n small l (lane_of_periodic (suc n) w) h q

    -- the unit vector u takes lane u
    unit_acting : (Ps : List (ℕ → ℕ)) → All n Ps → (g u : ℕ) → length Ps ≡ g → u < g → (q : ℕ) → acting n (unit_of (suc n) g u) Ps q ≡ get_or Ps u none q
    unit_acting Ps a g u e h q =
        acting_all n (unit_of (suc n) g u) Ps q
        ∙ ap (λ (k : ℕ). sum k (λ c. act n (bit (get_or (unit_of (suc n) g u) c 0)) (get_or Ps c none) q)) e
        ∙ sum_one g u (λ c. act n (bit (get_or (unit_of (suc n) g u) c 0)) (get_or Ps c none) q) h
        (λ c z. ap (λ (w : ℕ). act n (bit w) (get_or Ps c none) q) (unit_off (suc n) g c u (λ y. z (sym y))) ∙ act_word_zero n (get_or Ps c none) q)
        ∙ ap (λ (w : ℕ). act n (bit w) (get_or Ps u none) q) (unit_on (suc n) g u h)
        ∙ act_word_one n small (get_or Ps u none) (all_periodic n Ps a u) (all_even n Ps a u) q

    -- what words take of the unit vector v is word v
    acting_unit : (ws : List ℕ) (g v : ℕ) → v < g → Even n (lane_of (suc n) (get_or ws v 0)) → (q : ℕ)
        → acting n ws (map (lane_of (suc n)) (unit_of (suc n) g v)) q ≡ lane_of (suc n) (get_or ws v 0) q
    acting_unit ws g v h e q =
        let U : List ℕ = unit_of (suc n) g v in
        let at : (c : ℕ) → get_or (map (lane_of (suc n)) U) c none ≡ lane_of (suc n) (get_or U c 0) =
        λ c. ap (λ (d : ℕ → ℕ). get_or (map (lane_of (suc n)) U) c d) (sym (fun_ext (lane_of_zero (suc n)))) ∙ get_or-map (lane_of (suc n)) U c 0 in
        acting_all n ws (map (lane_of (suc n)) U) q
        ∙ ap (λ (k : ℕ). sum k (λ c. act n (bit (get_or ws c 0)) (get_or (map (lane_of (suc n)) U) c none) q)) (length-map U (lane_of (suc n)) ∙ length_unit (suc n) g v)
        ∙ sum_one g v (λ c. act n (bit (get_or ws c 0)) (get_or (map (lane_of (suc n)) U) c none) q) h
        (λ c z. ap (λ (f : ℕ → ℕ). act n (bit (get_or ws c 0)) f q)
        (at c ∙ ap (lane_of (suc n)) (unit_off (suc n) g c v (λ y. z (sym y))) ∙ fun_ext (lane_of_zero (suc n)))
        ∙ ap (λ (f : ℕ → ℕ). f q) (act_none n (bit (get_or ws c 0))))
        ∙ ap (λ (f : ℕ → ℕ). act n (bit (get_or ws v 0)) f q) (at v ∙ ap (lane_of (suc n)) (unit_on (suc n) g v h))
        ∙ lane_one (get_or ws v 0) e q

-- exponents that make a system
module _ (n : ℕ) (small : n < 61) (prime : T (odd_prime (suc n))) (xs ys : List ℕ) (same : length ys ≡ length xs)
    (distinct_x : Distinct (Apart (suc n)) xs) (distinct_y : Distinct (Apart (suc n)) ys) (cross : Cross (Apart (suc n)) xs ys) where
  -- words a of even weight, one for each unknown
  module _ (a : List ℕ) (la : length a ≡ length ys) (good : All n (map (lane_of (suc n)) a)) (low : (u : ℕ) → u < length ys → get_or a u 0 < 2 ^ suc n) where
    -- the solution of the transposed system
    abbrev turned : List ℕ
    turned = solve_of (suc n) ys xs a

    turned_words : words_of (suc n) xs turned ys ≡ a
    turned_words =
        let F : ℕ → ℕ = λ y. row_of (suc n) y xs turned in
        ap (map F) (sym (table_is ys 0))
        ∙ map_table F (length ys) (λ k. get_or ys k 0)
        ∙ table_ext (length ys) (λ k. F (get_or ys k 0)) (λ k. get_or a k 0)
        (λ k h. row_solve n small prime ys xs (sym same) distinct_y distinct_x (cross_swap (suc n) xs ys cross) a la good k h (low k h))
        ∙ ap (λ (m : ℕ). table m (λ k. get_or a k 0)) (sym la)
        ∙ table_is a 0

    -- what the words a take of the unknowns, the transposed solution takes of the right sides
    pub turned_acting : (Ps : List (ℕ → ℕ)) → All n Ps → length Ps ≡ length xs → (q : ℕ) → acting n (solve_of (suc n) ys xs a) Ps q ≡ acting n a (decode n xs ys Ps) q
    turned_acting Ps g e q =
        let R : List (ℕ → ℕ) = decode n xs ys Ps in
        ap (λ (l : List (ℕ → ℕ)). acting n turned l q)
        (sym (encode_decode n small prime xs ys Ps g (same_length xs ys (sym same)) (same_length xs Ps (sym e)) distinct_x distinct_y cross) ∙ sym (encode_map n xs ys R))
        ∙ acting_rows n small prime xs turned ys R (cross_swap (suc n) xs ys cross) (decode_good n xs ys Ps g) q
        ∙ ap (λ (l : List ℕ). acting n l R q) turned_words

    turned_even : (c : ℕ) → Even n (lane_of (suc n) (get_or turned c 0))
    turned_even c =
        let A : List (ℕ → ℕ) = decode n ys xs (map (lane_of (suc n)) a) in
        subst (Even n)
        (ap (λ (l : List (ℕ → ℕ)). get_or l c none) (sym (lanes_solve n ys xs a))
        ∙ ap (λ (d : ℕ → ℕ). get_or (map (lane_of (suc n)) turned) c d) (sym (fun_ext (lane_of_zero (suc n))))
        ∙ get_or-map (lane_of (suc n)) turned c 0)
        (all_even n A (decode_good n ys xs (map (lane_of (suc n)) a) good) c)

    -- word c of the transposed solution, by column c of the matrix
    turned_lane : (c : ℕ) → c < length xs → (q : ℕ)
        → lane_of (suc n) (get_or (solve_of (suc n) ys xs a) c 0) q ≡ acting n a (map (lane_of (suc n)) (solve_of (suc n) xs ys (unit_of (suc n) (length xs) c))) q
    turned_lane c h q =
        let g : ℕ = length xs in
        let U : List (ℕ → ℕ) = map (lane_of (suc n)) (unit_of (suc n) g c) in
        sym (acting_unit n small turned g c h (turned_even c) q)
        ∙ turned_acting U (units_good n small prime g c) (length-map (unit_of (suc n) g c) (lane_of (suc n)) ∙ length_unit (suc n) g c) q
        ∙ ap (λ (l : List (ℕ → ℕ)). acting n a l q) (sym (lanes_solve n xs ys (unit_of (suc n) g c)))

  -- the matrix of the swapped exponents is the transposed one
  pub entry_swap : (u v : ℕ) → u < length xs → v < length xs → entry_of (suc n) xs ys u v ≡ entry_of (suc n) ys xs v u
  unfolding entry_of
  entry_swap u v hu hv =
      let g : ℕ = length ys in
      let hg : u < length ys = omega arith in
      let S : List ℕ = solve_of (suc n) xs ys (unit_of (suc n) (length xs) v) in
      let U : List ℕ = unit_of (suc n) g u in
      let good : All n (map (lane_of (suc n)) S) =
      subst (All n) (sym (lanes_solve n xs ys (unit_of (suc n) (length xs) v))) (decode_good n xs ys (map (lane_of (suc n)) (unit_of (suc n) (length xs) v)) (units_good n small prime (length xs) v)) in
      lane_word n (get_or S u 0) (get_or (solve_of (suc n) ys xs U) v 0) (solve_lt (suc n) xs ys (unit_of (suc n) (length xs) v) u) (solve_lt (suc n) ys xs U v)
      (sym (fun_ext (λ q.
      turned_lane U (length_unit (suc n) g u) (units_good n small prime g u) (λ k h. unit_lt (suc n) g k u h) v hv q
      ∙ unit_acting n small (map (lane_of (suc n)) S) good g u
      (length-map S (lane_of (suc n)) ∙ length_solve n xs ys (unit_of (suc n) (length xs) v) same (length_unit (suc n) (length xs) v) ∙ sym same) hg q
      ∙ ap (λ (d : ℕ → ℕ). get_or (map (lane_of (suc n)) S) u d q) (sym (fun_ext (lane_of_zero (suc n))))
      ∙ ap (λ (f : ℕ → ℕ). f q) (get_or-map (lane_of (suc n)) S u 0))))

  -- row u of the matrix is one solution of the transposed system
  pub row_swap : (g u : ℕ) → length xs ≡ g → u < g → table g (λ v. entry_of (suc n) xs ys u v) ≡ solve_of (suc n) ys xs (unit_of (suc n) g u)
  unfolding entry_of
  row_swap g u e h =
      let U : List ℕ = unit_of (suc n) g u in
      let z : length ys ≡ g = same ∙ e in
      table_ext g (λ v. entry_of (suc n) xs ys u v) (λ v. get_or (solve_of (suc n) ys xs U) v 0)
      (λ v l. entry_swap u v (omega arith) (omega arith) ∙ ap (λ (k : ℕ). get_or (solve_of (suc n) ys xs (unit_of (suc n) k u)) v 0) z)
      ∙ ap (λ (k : ℕ). table k (λ v. get_or (solve_of (suc n) ys xs U) v 0))
      (sym (length_solve n ys xs U (sym same) (length_unit (suc n) g u ∙ sym z) ∙ z))
      ∙ table_is (solve_of (suc n) ys xs U) 0

  -- a parity x apart from the unknowns
  module _ (x : ℕ) (off : Off (Apart (suc n)) x ys) where
    inverses_good : (l : List ℕ) → Off (Apart (suc n)) x l → All n (map (lane_of (suc n)) (map (inverse_of (suc n) x) l))
    inverses_good [] o = tt
    inverses_good (y ∷ l) o = (
      (
        lane_of_periodic (suc n) (inverse_of (suc n) x y),
        subst (λ (w : ℕ). Even n (lane_of (suc n) w)) (sym (inverse_is n x y small prime o.0)) (over_even n small prime x y o.0 (one (suc n)) (one_good n small prime).1),
      ),
      inverses_good l o.1,
    )

    inverses_low : (l : List ℕ) (u : ℕ) → get_or (map (inverse_of (suc n) x) l) u 0 < 2 ^ suc n
    inverses_low [] u = pow_pos (suc n)
    inverses_low (y ∷ l) zero = inverse_lt (suc n) x y
    inverses_low (y ∷ l) (suc u) = inverses_low l u

    -- what the parity x takes of right side c, by the column c of the matrix, is word c of one solution
    pub row_turned : (c : ℕ) → c < length xs
        → row_of (suc n) x ys (solve_of (suc n) xs ys (unit_of (suc n) (length xs) c)) ≡ get_or (solve_of (suc n) ys xs (map (inverse_of (suc n) x) ys)) c 0
    row_turned c h =
        let I : List ℕ = map (inverse_of (suc n) x) ys in
        let S : List ℕ = solve_of (suc n) xs ys (unit_of (suc n) (length xs) c) in
        lane_word n (row_of (suc n) x ys S) (get_or (solve_of (suc n) ys xs I) c 0) (row_lt (suc n) x ys S) (solve_lt (suc n) ys xs I c)
        (fun_ext (λ q.
        ap (λ (f : ℕ → ℕ). f q) (lanes_row n x ys S)
        ∙ present_words n x ys (map (lane_of (suc n)) S) q
        ∙ sym (turned_lane I (length-map ys (inverse_of (suc n) x)) (inverses_good ys off) (λ u k. inverses_low ys u) c h q)))

    -- the whole row of a lost parity x: one solution of the transposed system
    pub composed_swap : (g : ℕ) → length xs ≡ g
        → composed_of (suc n) x ys g (table g (λ u. table g (λ v. entry_of (suc n) xs ys u v))) ≡ solve_of (suc n) ys xs (map (inverse_of (suc n) x) ys)
    unfolding composed_of entry_of
    composed_swap g e =
        let I : List ℕ = map (inverse_of (suc n) x) ys in
        let z : length ys ≡ g = same ∙ e in
        let S : ℕ → List ℕ = λ c. solve_of (suc n) xs ys (unit_of (suc n) (length xs) c) in
        let E : ℕ → ℕ → ℕ = λ u v. entry_of (suc n) xs ys u v in
        let ls : length (solve_of (suc n) ys xs I) ≡ g = length_solve n ys xs I (sym same) (length-map ys (inverse_of (suc n) x)) ∙ z in
        sym (is_tab (solve_of (suc n) ys xs I) g (λ c. row_of (suc n) x ys (map (λ (ms : List ℕ). get_or ms c 0) (table g (λ u. table g (E u))))) ls
        (λ c h.
        let k : c < length xs = omega arith in
        let l : c < g = omega arith in
        sym (row_turned c k)
        ∙ ap (row_of (suc n) x ys)
        (sym (map_table (λ (ms : List ℕ). get_or ms c 0) g (λ u. table g (E u))
        ∙ table_ext g (λ u. get_or (table g (E u)) c 0) (λ u. get_or (S c) u 0) (λ u b. get_or_table g (E u) 0 c l)
        ∙ ap (λ (m : ℕ). table m (λ u. get_or (S c) u 0)) (sym (length_solve n xs ys (unit_of (suc n) (length xs) c) same (length_unit (suc n) (length xs) c) ∙ e))
        ∙ table_is (S c) 0))))
