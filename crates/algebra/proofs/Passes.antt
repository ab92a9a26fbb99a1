-- The solver's two passes over an array give what its recursion gives.
-- Assumes nothing.
use Prim.Native.Nat.{ℕ}
use mathlib.Core.List.{List, [], ◌∷◌}
use mathlib.Core.Path.{◌≡◌, refl, ap}
use Rattle.algebra.specs.Cauchy.{less, back, first, solve, down, up}

module _ {M : Type 0} (◌⊕◌ : M → M → M) (𝟘 : M) (D Q : ℕ → ℕ → M → M) where
  pub two_passes : (xs ys : List ℕ) (Ps : List M) → solve ◌⊕◌ 𝟘 D Q xs ys Ps ≡ up ◌⊕◌ 𝟘 D Q xs ys (down ◌⊕◌ 𝟘 D Q xs ys Ps)
  two_passes [] ys Ps = refl
  two_passes (x ∷ xs) [] Ps = refl
  two_passes (x ∷ xs) (y ∷ ys) [] = refl
  two_passes (x ∷ xs) (y ∷ ys) (P ∷ Ps) =
      ap (λ (l : List M). first ◌⊕◌ 𝟘 D Q x y P ys (back ◌⊕◌ 𝟘 D Q x y ys l)) (two_passes xs ys (less ◌⊕◌ 𝟘 D Q x y P xs Ps))
