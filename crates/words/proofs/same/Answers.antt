-- `words::same` meets its contract.
-- Assumes nothing.
use Rattle.std.proofs.Common.{◌≡◌, ◌∙◌, ℕ, Bool, ◌&&◌, List, [], ◌∷◌, ap, refl}
use Rattle.std.proofs.Math.Dec.{eqb}
use Rattle.std.specs.Cmp.Lexicographic.{pointwise}
use Rattle.words.specs.Words.{same_bytes}
use Rattle.words.proofs.same.Goals as goal

compared : (s t : List ℕ) → pointwise eqb s t ≡ same_bytes s t
compared [] [] = refl
compared [] (y ∷ t) = refl
compared (x ∷ s) [] = refl
compared (x ∷ s) (y ∷ t) = ap (λ (b : Bool). eqb x y && b) (compared s t)

pub returns : goal.returns
returns c = c.eq.ensures ∙ compared c.args.a.now c.args.b.now
