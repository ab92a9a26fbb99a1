-- What a call that is lent a slice comes to: its answer, and the slice as it is left.
-- Assumes nothing.
use Rattle.std.specs.Prelude.{ℕ, List, ◌≡◌}

pub record Left (A : Type 0) : Type 0 where
  pub answer : A
  pub image : List ℕ

-- the call answered x and left the slice t, as l says
pub record Leaves {A : Type 0} (l : Left A) (x : A) (t : List ℕ) : Type 0 where
  pub answered : x ≡ l.answer
  pub left : t ≡ l.image
