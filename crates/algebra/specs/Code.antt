-- The code over lanes: parity x of data s at the exponents ys is the sum of s / (x^x + x^y).
-- Assumes nothing.
use Rattle.std.specs.Prelude.{ℕ, suc, List, [], ◌∷◌}
use Rattle.laws.specs.Xor.{◌⊕◌}
use Rattle.algebra.specs.Lane.{Periodic, D, Even}
use Rattle.algebra.specs.Divide.{over}
use Rattle.algebra.specs.Cauchy.{enc, solve}

abbrev pub plus : (ℕ → ℕ) → (ℕ → ℕ) → ℕ → ℕ
plus f g q = f q ⊕ g q

abbrev pub none : ℕ → ℕ
none q = 0

module _ (n : ℕ) where
  abbrev pub Good : (ℕ → ℕ) → Type 0
  Good f = Periodic (suc n) f × Even n f

  abbrev pub All : List (ℕ → ℕ) → Type 0
  All [] = Unit {0}
  All (f ∷ fs) = Good f × All fs

  -- the parities xs of the data ss at ys, and the data at ys of the parities Ps at xs
  abbrev pub encode : List ℕ → List ℕ → List (ℕ → ℕ) → List (ℕ → ℕ)
  encode = enc plus none (D n) (over n)

  abbrev pub decode : List ℕ → List ℕ → List (ℕ → ℕ) → List (ℕ → ℕ)
  decode = solve plus none (D n) (over n)
