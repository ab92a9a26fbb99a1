-- "Ring: product of two even-weight words, and division of one by x^a + x^b. Order: PRIME, ELEMENT, EXPONENT."
-- Assumes nothing.
use Rattle.std.specs.Prelude.{ℕ, Bool, not, ◌&&◌, ltb, eqb, Result, Ok, Err}
use Rattle.laws.specs.Choose.{choose}
use Rattle.algebra.specs.Word.{element, product_of, over_of}
use Rattle.refusal.specs.declared.Refusal.TheVariants.{Prime, Exponent, Element as NotElement}
use Rattle.refusal.specs.Number.{number_of}
use Rattle.stripe.specs.Params.{admitted_prime}
use Rattle.refusal.specs.declared.Refusal.{Refusal}

-- "a or b not below p, or a = b" is EXPONENT
unfoldable pub different : ℕ → ℕ → ℕ → Bool
different p a b = ltb a p && (ltb b p && not (eqb a b))

-- the product of polynomials modulo x^p = 1
unfoldable pub product_answer : ℕ → ℕ → ℕ → Result ℕ Refusal
product_answer p u v =
    choose (admitted_prime p)
    (choose (element p u) (choose (element p v) (Ok (product_of p u v)) (Err NotElement)) (Err NotElement))
    (Err Prime)

-- the only even-weight c with (x^a + x^b)·c = s
unfoldable pub divide_answer : ℕ → ℕ → ℕ → ℕ → Result ℕ Refusal
divide_answer p s a b =
    choose (admitted_prime p)
    (choose (element p s) (choose (different p a b) (Ok (over_of p a b s)) (Err Exponent)) (Err NotElement))
    (Err Prime)
