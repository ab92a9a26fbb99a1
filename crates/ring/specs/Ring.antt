-- What the ring's inner functions ask of their numbers.
-- Assumes nothing.
use Rattle.std.specs.Prelude.{ℕ, ◌^◌, ◌<◌, ◌≤◌}
use Rattle.algebra.specs.Prime.{Modulus}
use Rattle.algebra.specs.Lane.{Apart}

-- a word of the ring
pub record Factor (p w : ℕ) : Type 0 where
  pub small : p ≤ 61
  pub word : w < 2 ^ p

-- 1 + x^c divides
pub record Step (p c : ℕ) : Type 0 where
  pub modulus : Modulus p
  pub some : 0 < c
  pub low : c < p

-- x^a + x^b divides
pub record Exponents (p a b : ℕ) : Type 0 where
  pub modulus : Modulus p
  pub apart : Apart p a b

-- x^a + x^b divides the word w
pub record Divisible (p a b w : ℕ) : Type 0 where
  pub exponents : Exponents p a b
  pub word : w < 2 ^ p
