-- Division by 1 + x^d in one walk: from a place with 0 on it, each next place by one XOR, so that the quotient is found but for one constant.
-- Assumes nothing.
use Rattle.std.specs.Prelude.{ℕ, suc, ◌+◌, ◌-◌, ◌*◌, ◌%◌}
use Rattle.laws.specs.Xor.{◌⊕◌}
use Rattle.algebra.specs.Divide.{over}

module _ (n d : ℕ) where
  -- the place after i steps of d places down, from the place p - 1 = n
  unfoldable pub walk_place : ℕ → ℕ
  walk_place i = (n + i * (suc n - d)) % suc n

  -- f / (1 + x^d) with its coefficient at p - 1 - d added to each: what a walk finds that has 0 there
  unfoldable pub walked : (ℕ → ℕ) → ℕ → ℕ
  walked f q = over n 0 d f q ⊕ over n 0 d f (n - d)
