-- What is solved from even lanes is even lanes, and lost columns are sums over the consulted columns of word · column: over plain lists.
-- Assumes nothing.
use Prim.Native.Nat.{ℕ, zero, suc, ◌<◌}
use mathlib.Core.Bool.{Bool, true, false}
use mathlib.Core.List.{List, [], ◌∷◌, ◌++◌, map}
use mathlib.Core.Path.{refl, sym, ap, ap₂, ◌∙◌, fun_ext, ◌≡◌}
use native.Mathlib.Omega.{arith}
use lib.Dec.{T}
use lib.ListN.{length, get_or, length-map}
use Rattle.laws.proofs.Sum.{sum_front, sum_ext, sum_none}
use Rattle.laws.proofs.Tab.{get_or_table, length_table, map_table, table_ext, table_is}
use Rattle.laws.proofs.Xor.{zero_⊕, ⊕_assoc}
use Rattle.laws.specs.Bit.{bit}
use Rattle.laws.specs.Part.{table}
use Rattle.laws.specs.Sum.{sum}
use Rattle.laws.specs.Xor.{◌⊕◌}
use Rattle.algebra.proofs.Column.{lane_at, lane_periodic, lane_even, even_ext}
use Rattle.algebra.proofs.Composed.{parity_words, present_words, acting_xor, composed_length}
use Rattle.algebra.proofs.Consulted.{consulted, acting_all, lost_column}
use Rattle.algebra.proofs.Solves.{solves}
use Rattle.algebra.proofs.Stored.{plus_good, row_good, length_decode}
use Rattle.algebra.specs.Cauchy.{Cross, row}
use Rattle.algebra.specs.Code.{Good, All, plus, none, decode}
use Rattle.algebra.specs.Column.{lane}
use Rattle.algebra.specs.Divide.{over}
use Rattle.algebra.specs.Lane.{D, act, Apart}
use Rattle.algebra.specs.Prime.{odd_prime}
use Rattle.algebra.specs.Recovery.{freed, acting, kept, entry_of, words_of, composed_of, with, row_of}
use Rattle.algebra.specs.Word.{inverse_of}

module _ (n : ℕ) where
  -- ---- even lanes

  pub freed_good : (xs : List ℕ) (Cs : List (ℕ → ℕ)) (zs : List ℕ) (ss : List (ℕ → ℕ)) → All n Cs → All n ss → All n (freed n xs Cs zs ss)
  freed_good [] Cs zs ss a b = tt
  freed_good (x ∷ xs) [] zs ss a b = tt
  freed_good (x ∷ xs) (C ∷ Cs) zs ss a b = (plus_good n C (row plus none (D n) (over n) x zs ss) a.0 (row_good n x zs ss b), freed_good xs Cs zs ss a.1 b)

  pub good_at : (fs : List (ℕ → ℕ)) → All n fs → (u : ℕ) → Good n (get_or fs u none)
  good_at [] a u = (λ q. refl, sum_none (suc n))
  good_at (f ∷ fs) a zero = a.0
  good_at (f ∷ fs) a (suc u) = good_at fs a.1 u

  pub good_map : {A : Type 0} (f : A → ℕ → ℕ) (l : List A) → ((i : A) → Good n (f i)) → All n (map f l)
  good_map f [] g = tt
  good_map f (i ∷ l) g = (g i, good_map f l g)

  pub good_kept : (m : List Bool) (ss : List (ℕ → ℕ)) → All n ss → All n (kept m ss)
  good_kept [] ss a = a
  good_kept (b ∷ m) [] a = tt
  good_kept (true ∷ m) (s ∷ ss) a = good_kept m ss a.1
  good_kept (false ∷ m) (s ∷ ss) a = (a.0, good_kept m ss a.1)

  pub good_table : (k : ℕ) (f : ℕ → ℕ → ℕ) → ((i : ℕ) → Good n (f i)) → All n (table k f)
  good_table zero f g = tt
  good_table (suc k) f g = (g 0, good_table k (λ i. f (suc i)) (λ i. g (suc i)))

  pub lane_good : (s : ℕ → ℕ) → Good n (lane n s)
  lane_good s = (lane_periodic n s, lane_even n s)

  -- the lane of an even lane's symbols is that lane
  pub lane_self : (f : ℕ → ℕ) → Good n f → lane n f ≡ f
  lane_self f g = fun_ext (even_ext n (lane n f) f (lane_periodic n f) g.0 (lane_even n f) g.1 (lane_at n f))

  pub lane_is : (s f : ℕ → ℕ) → Good n f → ((i : ℕ) → i < n → s i ≡ f i) → lane n s ≡ f
  lane_is s f g h = fun_ext (even_ext n (lane n s) f (lane_periodic n s) g.0 (lane_even n s) g.1 (λ i l. lane_at n s i l ∙ h i l))

  -- ---- lengths

  pub length_freed : (xs : List ℕ) (Cs : List (ℕ → ℕ)) (zs : List ℕ) (ss : List (ℕ → ℕ)) → length Cs ≡ length xs → length (freed n xs Cs zs ss) ≡ length xs
  length_freed [] Cs zs ss e = refl
  length_freed (x ∷ xs) [] zs ss e = e
  length_freed (x ∷ xs) (C ∷ Cs) zs ss e = ap suc (length_freed xs Cs zs ss (omega arith))

  -- ---- sums

  -- the sum over all data columns is a parity
  pub sum_row : (x k : ℕ) (f : ℕ → ℕ) (L : ℕ → ℕ → ℕ) (q : ℕ) → sum k (λ i. over n x (f i) (L i) q) ≡ row plus none (D n) (over n) x (table k f) (table k L) q
  unfolding sum
  sum_row x zero f L q = refl
  sum_row x (suc k) f L q =
      sum_front k (λ i. over n x (f i) (L i) q)
      ∙ ap (λ (a : ℕ). over n x (f 0) (L 0) q ⊕ a) (sum_row x k (λ i. f (suc i)) (λ i. L (suc i)) q)

  pub acting_append : (us ws : List ℕ) (Cs Ss : List (ℕ → ℕ)) (q : ℕ) → length us ≡ length Cs → acting n (us ++ ws) (Cs ++ Ss) q ≡ acting n us Cs q ⊕ acting n ws Ss q
  acting_append [] ws [] Ss q e = sym (zero_⊕ (acting n ws Ss q))
  acting_append [] ws (C ∷ Cs) Ss q e = absurd (let z : 0 ≡ suc (length Cs) = e in omega arith)
  acting_append (u ∷ us) ws [] Ss q e = absurd (let z : suc (length us) ≡ 0 = e in omega arith)
  acting_append (u ∷ us) ws (C ∷ Cs) Ss q e =
      ap (λ (a : ℕ). act n (bit u) C q ⊕ a) (acting_append us ws Cs Ss q (omega arith))
      ∙ sym (⊕_assoc (act n (bit u) C q) (acting n us Cs q) (acting n ws Ss q))

-- g consulted parities Cs at xs, lost data at ys, present data ss at zs
module _ (n : ℕ) (small : n < 61) (prime : T (odd_prime (suc n))) (g : ℕ) (xs ys zs : List ℕ) (Cs ss : List (ℕ → ℕ))
    (gx : length xs ≡ g) (gy : length ys ≡ g) (gc : length Cs ≡ g) (cross : Cross (Apart (suc n)) zs xs) (c : All n Cs) (a : All n ss) where
  -- lost data column u
  pub data_acting : (ms : List ℕ) (u q : ℕ) → ms ≡ table g (λ v. entry_of (suc n) xs ys u v)
      → acting n (ms ++ words_of (suc n) xs ms zs) (Cs ++ ss) q ≡ get_or (decode n xs ys (freed n xs Cs zs ss)) u none q
  data_acting ms u q e =
      let l : length ms ≡ length Cs = ap length e ∙ length_table g (λ v. entry_of (suc n) xs ys u v) ∙ sym gc in
      acting_append n ms (words_of (suc n) xs ms zs) Cs ss q l
      ∙ sym (lost_column n small prime xs ys ms Cs zs ss (gx ∙ sym gc) cross c a u
      (λ v h. let k : v < g = omega arith in ap (λ (w : List ℕ). get_or w v 0) e ∙ get_or_table g (λ v. entry_of (suc n) xs ys u v) 0 v k) q)

  -- the lost data, by the rows of the matrix
  decode_rows : decode n xs ys (freed n xs Cs zs ss) ≡ map (λ (ms : List ℕ). acting n ms (freed n xs Cs zs ss)) (table g (λ u. table g (λ v. entry_of (suc n) xs ys u v)))
  decode_rows =
      let F : List (ℕ → ℕ) = freed n xs Cs zs ss in
      let R : List (ℕ → ℕ) = decode n xs ys F in
      let E : ℕ → List ℕ = λ u. table g (λ v. entry_of (suc n) xs ys u v) in
      let lf : length F ≡ length xs = length_freed n xs Cs zs ss (gc ∙ sym gx) in
      let lr : length R ≡ g = length_decode n xs ys F (gy ∙ sym gx) lf ∙ gx in
      sym (table_is R none)
      ∙ ap (λ (k : ℕ). table k (λ u. get_or R u none)) lr
      ∙ table_ext g (λ u. get_or R u none) (λ u. acting n (E u) F) (λ u h. fun_ext (λ q.
      solves n small xs ys F (freed_good n xs Cs zs ss c a) (sym lf) u q
      ∙ sum_ext (length xs) (λ v k. let l : v < g = omega arith in ap (λ (w : ℕ). act n (bit w) (get_or F v none) q) (sym (get_or_table g (λ v. entry_of (suc n) xs ys u v) 0 v l)))
      ∙ ap (λ (k : ℕ). sum k (λ v. act n (bit (get_or (E u) v 0)) (get_or F v none) q)) (sym lf)
      ∙ sym (acting_all n (E u) F q)))
      ∙ sym (map_table (λ (ms : List ℕ). acting n ms F) g E)

  -- the parity x of the lost data and the present data
  pub parity_acting : (cs : List ℕ) (x q : ℕ) → cs ≡ composed_of (suc n) x ys g (table g (λ u. table g (λ v. entry_of (suc n) xs ys u v)))
      → acting n (cs ++ with ◌⊕◌ (words_of (suc n) xs cs zs) (map (inverse_of (suc n) x) zs)) (Cs ++ ss) q
      ≡ row plus none (D n) (over n) x ys (decode n xs ys (freed n xs Cs zs ss)) q ⊕ row plus none (D n) (over n) x zs ss q
  parity_acting cs x q e =
      let F : List (ℕ → ℕ) = freed n xs Cs zs ss in
      let M : List (List ℕ) = table g (λ u. table g (λ v. entry_of (suc n) xs ys u v)) in
      let W : List ℕ = words_of (suc n) xs cs zs in
      let I : List ℕ = map (inverse_of (suc n) x) zs in
      let lf : length F ≡ g = length_freed n xs Cs zs ss (gc ∙ sym gx) ∙ gx in
      let lc : length cs ≡ length Cs = ap length e ∙ composed_length (suc n) x ys g M ∙ sym gc in
      let lw : length W ≡ length I = length-map zs (λ (z : ℕ). row_of (suc n) z xs cs) ∙ sym (length-map zs (inverse_of (suc n) x)) in
      acting_append n cs (with ◌⊕◌ W I) Cs ss q lc
      ∙ ap (λ (k : ℕ). acting n cs Cs q ⊕ k) (acting_xor n W I ss q lw)
      ∙ sym (⊕_assoc (acting n cs Cs q) (acting n W ss q) (acting n I ss q))
      ∙ ap₂ ◌⊕◌
      (sym (consulted n small prime xs cs Cs zs ss (gx ∙ sym gc) cross a q)
      ∙ ap (λ (ws : List ℕ). acting n ws F q) (e ∙ ap (λ (k : ℕ). composed_of (suc n) x ys k M) (sym lf))
      ∙ sym (parity_words n x ys M F (freed_good n xs Cs zs ss c a) q)
      ∙ ap (λ (l : List (ℕ → ℕ)). row plus none (D n) (over n) x ys l q) (sym decode_rows))
      (sym (present_words n x zs ss q))
