-- A map that keeps the operations carries encoding to encoding and solving to solving.
-- Assumes nothing.
use Prim.Native.Nat.{ℕ}
use mathlib.Core.List.{List, [], ◌∷◌, map}
use mathlib.Core.Path.{◌≡◌, refl, ap, ap₂, ◌∙◌}
use Rattle.algebra.specs.Cauchy.{row, enc, less, back, first, solve}

module _ {M N : Type 0} (◌⊕◌ : M → M → M) (𝟘 : M) (D Q : ℕ → ℕ → M → M) (◌⊞◌ : N → N → N) (𝟎 : N) (E R : ℕ → ℕ → N → N) (v : M → N)
    (v_add : (a b : M) → v (◌⊕◌ a b) ≡ ◌⊞◌ (v a) (v b)) (v_zero : v 𝟘 ≡ 𝟎)
    (v_D : (x y : ℕ) (a : M) → v (D x y a) ≡ E x y (v a)) (v_Q : (x y : ℕ) (a : M) → v (Q x y a) ≡ R x y (v a)) where
  pub row_map : (x : ℕ) (ys : List ℕ) (ss : List M) → v (row ◌⊕◌ 𝟘 D Q x ys ss) ≡ row ◌⊞◌ 𝟎 E R x ys (map v ss)
  row_map x [] ss = v_zero
  row_map x (y ∷ ys) [] = v_zero
  row_map x (y ∷ ys) (s ∷ ss) = v_add (Q x y s) (row ◌⊕◌ 𝟘 D Q x ys ss) ∙ ap₂ ◌⊞◌ (v_Q x y s) (row_map x ys ss)

  pub enc_map : (xs ys : List ℕ) (ss : List M) → map v (enc ◌⊕◌ 𝟘 D Q xs ys ss) ≡ enc ◌⊞◌ 𝟎 E R xs ys (map v ss)
  enc_map [] ys ss = refl
  enc_map (x ∷ xs) ys ss = ap₂ ◌∷◌ (row_map x ys ss) (enc_map xs ys ss)

  less_map : (x y : ℕ) (P : M) (xs : List ℕ) (Ps : List M) → map v (less ◌⊕◌ 𝟘 D Q x y P xs Ps) ≡ less ◌⊞◌ 𝟎 E R x y (v P) xs (map v Ps)
  less_map x y P [] Ps = refl
  less_map x y P (w ∷ xs) [] = refl
  less_map x y P (w ∷ xs) (S ∷ Ps) =
      ap₂ ◌∷◌ (v_Q x w (◌⊕◌ (D w y S) (D x y P)) ∙ ap (R x w) (v_add (D w y S) (D x y P) ∙ ap₂ ◌⊞◌ (v_D w y S) (v_D x y P))) (less_map x y P xs Ps)

  back_map : (x y : ℕ) (ys : List ℕ) (ss : List M) → map v (back ◌⊕◌ 𝟘 D Q x y ys ss) ≡ back ◌⊞◌ 𝟎 E R x y ys (map v ss)
  back_map x y [] ss = refl
  back_map x y (z ∷ ys) [] = refl
  back_map x y (z ∷ ys) (s ∷ ss) = ap₂ ◌∷◌ (v_Q y z (D x z s) ∙ ap (R y z) (v_D x z s)) (back_map x y ys ss)

  first_map : (x y : ℕ) (P : M) (ys : List ℕ) (ss : List M) → map v (first ◌⊕◌ 𝟘 D Q x y P ys ss) ≡ first ◌⊞◌ 𝟎 E R x y (v P) ys (map v ss)
  first_map x y P ys ss =
      ap (λ (m : N). m ∷ map v ss)
      (v_D x y (◌⊕◌ P (row ◌⊕◌ 𝟘 D Q x ys ss)) ∙ ap (E x y) (v_add P (row ◌⊕◌ 𝟘 D Q x ys ss) ∙ ap (◌⊞◌ (v P)) (row_map x ys ss)))

  pub solve_map : (xs ys : List ℕ) (Ps : List M) → map v (solve ◌⊕◌ 𝟘 D Q xs ys Ps) ≡ solve ◌⊞◌ 𝟎 E R xs ys (map v Ps)
  solve_map [] ys Ps = refl
  solve_map (x ∷ xs) [] Ps = refl
  solve_map (x ∷ xs) (y ∷ ys) [] = refl
  solve_map (x ∷ xs) (y ∷ ys) (P ∷ Ps) =
      first_map x y P ys (back ◌⊕◌ 𝟘 D Q x y ys (solve ◌⊕◌ 𝟘 D Q xs ys (less ◌⊕◌ 𝟘 D Q x y P xs Ps)))
      ∙ ap (first ◌⊞◌ 𝟎 E R x y (v P) ys)
      (back_map x y ys (solve ◌⊕◌ 𝟘 D Q xs ys (less ◌⊕◌ 𝟘 D Q x y P xs Ps))
      ∙ ap (back ◌⊞◌ 𝟎 E R x y ys)
      (solve_map xs ys (less ◌⊕◌ 𝟘 D Q x y P xs Ps) ∙ ap (solve ◌⊞◌ 𝟎 E R xs ys) (less_map x y P xs Ps)))
