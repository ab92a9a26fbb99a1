-- A lost parity as words on the consulted columns: the words of the lost data, composed.
-- Assumes nothing.
use Prim.Native.Nat.{ℕ, suc}
use mathlib.Core.List.{List, [], ◌∷◌, map, map-map}
use mathlib.Core.Path.{◌≡◌, sym, ap₂, ◌∙◌, refl, ap, fun_ext}
use native.Mathlib.Omega.{arith}
use lib.ListN.{get_or, length}
use Rattle.laws.proofs.Sum.{sum_ext, swap}
use Rattle.laws.proofs.Tab.{get_or_tab, length_tab}
use Rattle.laws.proofs.Xor.{⊕_self}
use Rattle.laws.specs.Bit.{bit}
use Rattle.laws.specs.Part.{tab}
use Rattle.laws.specs.Xor.{◌⊕◌}
use Rattle.algebra.proofs.Action.{act_word_zero, act_word_over, act_word_add, act_word_inverse}
use Rattle.algebra.proofs.Consulted.{acting_all}
use Rattle.algebra.proofs.Lane.{act_add}
use Rattle.algebra.proofs.Solves.{combine, all_periodic, row_general}
use Rattle.algebra.specs.Cauchy.{row}
use Rattle.algebra.specs.Code.{plus, none, All}
use Rattle.algebra.specs.Divide.{over, quot}
use Rattle.algebra.specs.Lane.{D, act, Periodic}
use Rattle.algebra.specs.Recovery.{row_of, acting, composed_of, with}
use Rattle.algebra.specs.Word.{over_of, inverse_of}

module _ (n : ℕ) where
  -- the parity x of data that are words acting on one lane
  pub composed : (x : ℕ) (ys ws : List ℕ) (f : ℕ → ℕ) → Periodic (suc n) f → (q : ℕ)
      → row plus none (D n) (over n) x ys (map (λ (w : ℕ). act n (bit w) f) ws) q ≡ act n (bit (row_of (suc n) x ys ws)) f q
  unfolding row_of
  composed x [] ws f h q = sym (act_word_zero n f q)
  composed x (y ∷ ys) [] f h q = sym (act_word_zero n f q)
  composed x (y ∷ ys) (w ∷ ws) f h q =
      ap₂ ◌⊕◌ (sym (act_word_over n x y w f h q)) (composed x ys ws f h q)
      ∙ sym (act_word_add n (over_of (suc n) x y w) (row_of (suc n) x ys ws) f q)

  -- the lost parity x of lost data ys that take the words `rows` of the consulted columns Cs
  pub parity_words : (x : ℕ) (ys : List ℕ) (rows : List (List ℕ)) (Cs : List (ℕ → ℕ)) → All n Cs → (q : ℕ)
      → row plus none (D n) (over n) x ys (map (λ (ms : List ℕ). acting n ms Cs) rows) q ≡ acting n (composed_of (suc n) x ys (length Cs) rows) Cs q
  unfolding composed_of combine
  parity_words x ys rows Cs h q =
      let g : ℕ = length Cs in
      let P : ℕ → ℕ → ℕ = λ c. get_or Cs c none in
      let per : (c : ℕ) → Periodic (suc n) (P c) = all_periodic n Cs h in
      let words : List ℕ → ℕ → ℕ = λ ms c. get_or ms c 0 in
      let w : ℕ → ℕ = λ c. row_of (suc n) x ys (map (λ (ms : List ℕ). get_or ms c 0) rows) in
      ap (λ (f : List ℕ → ℕ → ℕ). row plus none (D n) (over n) x ys (map f rows) q) (fun_ext (λ ms. fun_ext (acting_all n ms Cs)))
      ∙ ap (λ (l : List (ℕ → ℕ)). row plus none (D n) (over n) x ys l q) (sym (map-map (combine n g P per) words rows))
      ∙ row_general n g P per x ys (map words rows) q
      ∙ sum_ext g (λ c l. ap (λ (k : ℕ). act n (bit k) (P c) q)
      (ap (row_of (suc n) x ys) (map-map (λ (W : ℕ → ℕ). W c) words rows) ∙ sym (get_or_tab g w c l)))
      ∙ sym (acting_all n (tab g w) Cs q)

  -- the parity x of present data zs: the inverse of x + z on each
  pub present_words : (x : ℕ) (zs : List ℕ) (ss : List (ℕ → ℕ)) (q : ℕ) → row plus none (D n) (over n) x zs ss q ≡ acting n (map (inverse_of (suc n) x) zs) ss q
  present_words x [] ss q = refl
  present_words x (z ∷ zs) [] q = refl
  present_words x (z ∷ zs) (s ∷ ss) q = ap₂ ◌⊕◌ (sym (act_word_inverse n x z s q)) (present_words x zs ss q)

  -- a parity of sums is the sum of the parities
  pub row_plus : {A : Type 0} (x : ℕ) (ys : List ℕ) (f g : A → ℕ → ℕ) (l : List A) (q : ℕ)
      → row plus none (D n) (over n) x ys (map (λ (a : A). plus (f a) (g a)) l) q ≡ row plus none (D n) (over n) x ys (map f l) q ⊕ row plus none (D n) (over n) x ys (map g l) q
  row_plus x [] f g l q = sym (⊕_self 0)
  row_plus x (y ∷ ys) f g [] q = sym (⊕_self 0)
  row_plus x (y ∷ ys) f g (a ∷ l) q =
      ap₂ ◌⊕◌ (act_add n (quot n x y) (f a) (g a) q) (row_plus x ys f g l q)
      ∙ swap (over n x y (f a) q) (over n x y (g a) q) (row plus none (D n) (over n) x ys (map f l) q) (row plus none (D n) (over n) x ys (map g l) q)

  -- two sums over the same columns are one, word by word
  pub acting_xor : (us ws : List ℕ) (Cs : List (ℕ → ℕ)) (q : ℕ) → length us ≡ length ws → acting n (with ◌⊕◌ us ws) Cs q ≡ acting n us Cs q ⊕ acting n ws Cs q
  acting_xor [] [] Cs q e = sym (⊕_self 0)
  acting_xor [] (w ∷ ws) Cs q e = absurd (let z : 0 ≡ suc (length ws) = e in omega arith)
  acting_xor (u ∷ us) [] Cs q e = absurd (let z : suc (length us) ≡ 0 = e in omega arith)
  acting_xor (u ∷ us) (w ∷ ws) [] q e = sym (⊕_self 0)
  acting_xor (u ∷ us) (w ∷ ws) (C ∷ Cs) q e =
      ap₂ ◌⊕◌ (act_word_add n u w C q) (acting_xor us ws Cs q (omega arith))
      ∙ swap (act n (bit u) C q) (act n (bit w) C q) (acting n us Cs q) (acting n ws Cs q)

pub composed_length : (p x : ℕ) (ys : List ℕ) (g : ℕ) (rows : List (List ℕ)) → length (composed_of p x ys g rows) ≡ g
unfolding composed_of
composed_length p x ys g rows = length_tab g _
