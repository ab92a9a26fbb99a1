-- "As a word, bit i is the coefficient of x^i." The ring's operations on words.
-- Assumes nothing.
use Rattle.std.specs.Prelude.{ℕ, zero, suc, ◌+◌, ◌-◌, ◌*◌, ◌%◌, ◌^◌, Bool, ◌&&◌, ltb, eqb}
use Rattle.laws.specs.Bit.{bit, weight, pack}
use Rattle.algebra.specs.Lane.{D, act}
use Rattle.algebra.specs.Divide.{quot, over}

abbrev pub pred : ℕ → ℕ
pred zero = 0
pred (suc n) = n

-- the lane of a word: its bits below p, again and again
unfoldable pub lane_of : ℕ → ℕ → ℕ → ℕ
lane_of p w q = bit w (q % p)

-- an element of even weight: no bit at p or above, an even number of bits set
unfoldable pub element : ℕ → ℕ → Bool
element p w = ltb w (2 ^ p) && eqb (weight w p % 2) 0

-- e = x + x^2 + .. + x^(p-1)
abbrev pub one : ℕ → ℕ
one p = 2 ^ p - 2

-- x^a · w
unfoldable pub turn_of : ℕ → ℕ → ℕ → ℕ
turn_of p a w = pack p (λ q. lane_of p w (q + a * pred p))

-- (x^a + x^b) · w
unfoldable pub times_of : ℕ → ℕ → ℕ → ℕ → ℕ
times_of p a b w = pack p (D (pred p) a b (lane_of p w))

-- u · v
unfoldable pub product_of : ℕ → ℕ → ℕ → ℕ
product_of p u v = pack p (act (pred p) (bit u) (lane_of p v))

-- 1 / (x^a + x^b)
unfoldable pub inverse_of : ℕ → ℕ → ℕ → ℕ
inverse_of p a b = pack p (quot (pred p) a b)

-- w / (x^a + x^b)
unfoldable pub over_of : ℕ → ℕ → ℕ → ℕ → ℕ
over_of p a b w = pack p (over (pred p) a b (lane_of p w))
