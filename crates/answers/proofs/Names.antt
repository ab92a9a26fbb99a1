-- No name of a refusal is longer than 8 bytes, and a number without a name has none.
-- Assumes nothing.
use Prim.Native.Nat.{ℕ, zero, suc, ◌≤◌}
use mathlib.Core.Bool.{Bool, true, false, false≢true}
use mathlib.Core.List.{List, [], ◌∷◌}
use mathlib.Core.Path.{◌≡◌, refl}
use native.Mathlib.Omega.{arith}
use lib.Dec.{leb}
use lib.ListN.{length, get_or, get_or-eq_default}
use borrow.Author.Tests.{leb-true}
use Rattle.laws.specs.Choose.{choose}
use Rattle.words.specs.Words.{parts, before_first}
use Rattle.answers.specs.Line.{names, named}

all_short : List (List ℕ) → Bool
all_short [] = true
all_short (v ∷ vs) = choose (leb (length v) 8) (all_short vs) false

short_at : (vs : List (List ℕ)) → all_short vs ≡ true → (n : ℕ) → length (get_or vs n []) ≤ 8
unfolding all_short
short_at [] h n = omega arith
short_at (v ∷ vs) h n = go (leb (length v) 8) refl h (short_at vs) n
  where
    go : (x : Bool) → leb (length v) 8 ≡ x → choose x (all_short vs) false ≡ true → (all_short vs ≡ true → (m : ℕ) → length (get_or vs m []) ≤ 8) → (m : ℕ)
        → length (get_or (v ∷ vs) m []) ≤ 8
    go true e h f zero = leb-true (length v) 8 e
    go true e h f (suc m) = f h m
    go false e h f m = absurd (false≢true h)

pub named_short : (n : ℕ) → length (named n) ≤ 8
unfolding parts before_first all_short
named_short n = short_at (parts 32 names) refl n

-- no number above 19 has a name
pub unnamed : (n : ℕ) → 20 ≤ n → named n ≡ []
unfolding parts before_first
unnamed n h = get_or-eq_default (parts 32 names) [] h
