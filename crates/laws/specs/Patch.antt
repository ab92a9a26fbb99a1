-- A list that is another but for n places from at, where a function says what stands: what a loop of stores leaves.
-- Assumes nothing.
use Rattle.std.specs.Prelude.{ℕ, ◌+◌, ◌<◌, ◌≤◌, ◌≡◌, List, length, get_or}
use Rattle.laws.specs.Part.{put, tab}

pub record Patched (s t : List ℕ) (at n : ℕ) (f : ℕ → ℕ) : Type 0 where
  pub len : length t ≡ length s
  pub below : (o : ℕ) → o < at → get_or t o 0 ≡ get_or s o 0
  pub inner : (i : ℕ) → i < n → get_or t (at + i) 0 ≡ f i
  pub above : (o : ℕ) → at + n ≤ o → get_or t o 0 ≡ get_or s o 0

-- the same as an equation: t ≡ patch s at n f
unfoldable pub patch : List ℕ → ℕ → ℕ → (ℕ → ℕ) → List ℕ
patch s at n f = put s at (tab n f)
