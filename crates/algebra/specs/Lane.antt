-- "An element is a polynomial in x of degree below p, coefficients 0 or 1, with x^p = 1."
-- A lane is such a polynomial by its coefficients, a function of the period p = suc n; the coefficients may be bytes or longer numbers, since
-- XOR acts on each bit place by itself. x^a moves each coefficient a places up: place q gets what stood a places lower, which
-- is a * n places higher, for n = p - 1 is -1 modulo p.
-- Assumes nothing.
use Rattle.std.specs.Prelude.{ℕ, suc, ◌+◌, ◌*◌, ◌<◌, ◌≢◌, ◌≡◌}
use Rattle.laws.specs.Xor.{◌⊕◌}
use Rattle.laws.specs.Sum.{pick, sum}

-- "with x^p = 1"
abbrev pub Periodic : ℕ → (ℕ → ℕ) → Type 0
Periodic p f = (q : ℕ) → f (q + p) ≡ f q

-- "different exponents a, b below p"
abbrev pub Apart : ℕ → ℕ → ℕ → Type 0
Apart p a b = (a < p) × (b < p) × (a ≢ b)

module _ (n : ℕ) where
  -- the product with x^a + x^b
  unfoldable pub D : ℕ → ℕ → (ℕ → ℕ) → ℕ → ℕ
  D a b f q = f (q + a * n) ⊕ f (q + b * n)

  -- the product with the sum of x^i over the i below p at which w is not 0
  unfoldable pub act : (ℕ → ℕ) → (ℕ → ℕ) → ℕ → ℕ
  act w f q = sum (suc n) (λ i. pick (w i) (f (q + i * n)))

  -- "elements of even weight": at each bit place an even number of coefficients is set
  abbrev pub Even : (ℕ → ℕ) → Type 0
  Even f = sum (suc n) f ≡ 0
