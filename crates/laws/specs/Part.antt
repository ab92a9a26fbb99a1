-- Parts of a list, a list with a part put in its place, and a list by what stands at each place.
-- Assumes nothing.
use Rattle.std.specs.Prelude.{ℕ, zero, suc, ◌+◌, ◌*◌, ◌≤◌, List, [], ◌∷◌, ◌++◌, ◌⊎◌, length, take, drop, get_or}

-- the n bytes of s from at
unfoldable pub part : List ℕ → ℕ → ℕ → List ℕ
part s at n = take n (drop at s)

-- s with the bytes from at replaced by those of v
unfoldable pub put : List ℕ → ℕ → List ℕ → List ℕ
put s at v = take at s ++ (v ++ drop (at + length v) s)

-- f 0, f 1, .. f (n - 1)
unfoldable pub tab : ℕ → (ℕ → ℕ) → List ℕ
tab zero f = []
tab (suc n) f = f 0 ∷ tab n (λ o. f (suc o))

-- the same of anything
abbrev pub table : {A : Type 0} → ℕ → (ℕ → A) → List A
table zero f = []
table (suc n) f = f 0 ∷ table n (λ o. f (suc o))

-- byte x of row q, where rows of w bytes stand one after the other
abbrev pub row_byte : List ℕ → ℕ → ℕ → ℕ → ℕ
row_byte s w q x = get_or s (q * w + x) 0

-- the n places from a and the m places from b do not overlap
abbrev pub Clear : ℕ → ℕ → ℕ → ℕ → Type 0
Clear a n b m = (a + n ≤ b) ⊎ (b + m ≤ a)
