-- Sublists by a test, and permutations: the words in which two arrangements of one list of writes are compared.
-- Assumes nothing.
use Rattle.std.specs.Prelude.{Bool, List, [], ◌∷◌}
use Rattle.laws.specs.Choose.{choose}

-- the sublist of those that pass a test
unfoldable pub keep : {A : Type 0} → (A → Bool) → List A → List A
keep p [] = []
keep p (x ∷ l) = choose (p x) (x ∷ keep p l) (keep p l)

-- the same things, each as often, in any order
pub data Shuffled {A : Type 0} : List A → List A → Type 0 where
  done : Shuffled [] []
  next : (x : A) {l m : List A} → Shuffled l m → Shuffled (x ∷ l) (x ∷ m)
  swap : (x y : A) (l : List A) → Shuffled (x ∷ y ∷ l) (y ∷ x ∷ l)
  trans : {l m n : List A} → Shuffled l m → Shuffled m n → Shuffled l n
