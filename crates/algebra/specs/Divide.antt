-- "The inverse of x^a + x^b is the only even-weight u with (x^a + x^b)·u = e. Dividing an even-weight s by x^a + x^b gives the only
-- even-weight c with (x^a + x^b)·c = s." That the words below are these, and the only ones, is proved: `divides` and `only` of proofs/Divide.
-- Assumes nothing.
use Rattle.std.specs.Prelude.{ℕ, zero, suc, ◌+◌, ◌-◌, ◌*◌, ◌/◌, ◌%◌, ◌^◌, eqb}
use Rattle.laws.specs.Choose.{choose}
use Rattle.laws.specs.Bit.{bit}
use Rattle.algebra.specs.Lane.{act}

-- 1 + x^(2b) + x^(4b) + .. + x^(2mb), exponents modulo p, as a word
unfoldable pub evens : ℕ → ℕ → ℕ → ℕ
evens p b zero = 1
evens p b (suc m) = evens p b m + 2 ^ (2 * suc m * b % p)

-- the inverse of 1 + x^b: that sum up to m = (p - 1) / 2, with 1 + x + .. + x^(p-1) added where its weight would be odd
unfoldable pub inv : ℕ → ℕ → ℕ
inv p b = choose (eqb (p % 4) 1) (2 ^ p - 1 - evens p b (p / 2)) (evens p b (p / 2))

module _ (n : ℕ) where
  -- the word w with each place k lower: its product with x^(-k)
  unfoldable pub turn : ℕ → (ℕ → ℕ) → ℕ → ℕ
  turn k w i = w ((i + k) % suc n)

  -- x^a + x^b is x^a (1 + x^c) with this c
  unfoldable pub gap : ℕ → ℕ → ℕ
  gap a b = (b + (suc n - a)) % suc n

  -- the inverse of x^a + x^b, coefficient by coefficient
  unfoldable pub quot : ℕ → ℕ → ℕ → ℕ
  quot a b = turn a (bit (inv (suc n) (gap a b)))

  -- f / (x^a + x^b)
  abbrev pub over : ℕ → ℕ → (ℕ → ℕ) → ℕ → ℕ
  over a b f = act n (quot a b) f
