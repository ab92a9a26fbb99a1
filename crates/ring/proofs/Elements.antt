-- Elements by their weight, and the ways out of the public calls.
-- Assumes nothing.
use Prim.Native.Nat.{ℕ, zero, suc, ◌+◌, ◌/◌, ◌%◌, ◌^◌, ◌≤◌, ◌<◌, ◌*◌}
use mathlib.Core.Bool.{false, Bool, true}
use mathlib.Core.Logic.{◌≢◌}
use mathlib.Core.Path.{◌≡◌, ap, ap₂, ◌∙◌, sym}
use native.Mathlib.Decide.{dec_lt}
use native.Mathlib.Nat.{div-eq_of_lt, mod-lt, mod-eq_of_lt}
use native.Mathlib.Omega.{arith}
use lib.Count.{ones, ones_cat, ones-ones}
use lib.Dec.{eqb, T, leb, leb→le}
use lib.Pow.{pow_pos, split}
use Rattle.std.proofs.lemmas.Nat.{mod-pow-add}
use borrow.Author.Tests.{le-ltb, lt-ltb, eq-eqb, ne_eqb}
use Rattle.std.specs.Prelude.{Ok, Err}
use Rattle.laws.proofs.Choose.{true_T, and_left, and_right}
use Rattle.laws.specs.Bit.{weight, bit}
use Rattle.algebra.proofs.Words.{element_below}
use Rattle.algebra.specs.Prime.{odd_prime, Modulus}
use Rattle.algebra.specs.Word.{element, product_of, over_of}
use Rattle.refusal.specs.declared.Refusal.TheVariants.{Prime, Exponent, Element as NotElement}
use Rattle.stripe.specs.Params.{admitted_prime}
use Rattle.ring.specs.Answer.{product_answer, divide_answer, different}
use Rattle.ring.specs.Ring.{Divisible, Factor}

-- the bits of a word below n, counted
pub ones_below : (w n : ℕ) → ones (w % 2 ^ n) ≡ weight w n
unfolding weight bit
ones_below w zero = let z : w % 2 ^ 0 ≡ 0 = omega arith in ap ones z ∙ ones-ones 0
ones_below w (suc n) =
    let z : suc n ≡ 1 + n = omega arith in
    ap (λ (j : ℕ). ones (w % 2 ^ j)) z ∙ ap ones (mod-pow-add w 1 n) ∙ ones_cat n (w / 2 ^ n % 2) (w % 2 ^ n) (mod-lt w (pow_pos n))
    ∙ ap₂ (λ (x y : ℕ). x + y) (one_bit (w / 2 ^ n % 2) (mod-lt (w / 2 ^ n) (omega arith))) (ones_below w n) ∙ omega arith
  where
    one_bit : (d : ℕ) → d < 2 → ones d ≡ d
    one_bit zero h = ones-ones 0
    one_bit (suc zero) h = ones-ones 1
    one_bit (suc (suc d)) h = absurd (omega arith)

-- a bit at p or above
pub element_high : (w p : ℕ) → (w / 2 ^ p ≡ 0 → ⊥) → eqb (w / 2 ^ p) 0 ≡ element p w
unfolding element
element_high w p n = rw (ne_eqb (w / 2 ^ p) 0 n) (simp (le-ltb w (2 ^ p) (high_is w p n)))
  where
    high_is : (w p : ℕ) → (w / 2 ^ p ≡ 0 → ⊥) → 2 ^ p ≤ w
    high_is w p n = go (dec_lt w (2 ^ p))
      where
        go : Dec (w < 2 ^ p) → 2 ^ p ≤ w
        go (yes h) = absurd (n (div-eq_of_lt h))
        go (no h) = omega arith

pub element_weighed : (w p : ℕ) → w / 2 ^ p ≡ 0 → eqb (ones w % 2) 0 ≡ element p w
unfolding element
element_weighed w p z =
    let l = low_is w p z in
    simp (lt-ltb w (2 ^ p) l) (ap (λ (x : ℕ). eqb (x % 2) 0) (ap ones (sym (mod-eq_of_lt l)) ∙ ones_below w p))
  where
    low_is : (w p : ℕ) → w / 2 ^ p ≡ 0 → w < 2 ^ p
    low_is w p z = omega (arith, split w p, mod-lt w (pow_pos p), ap (λ (x : ℕ). x * 2 ^ p) z)

pub ruleset weighed = (element_high, element_weighed)

-- ---- what the tests of the public calls show

module _ (p : ℕ) (t : Bool) (e : t ≡ admitted_prime p) (f : t ≡ true) where
  admitted : T (admitted_prime p)
  admitted = true_T (admitted_prime p) (sym e ∙ f)

  pub admits_small : p ≤ 61
  unfolding admitted_prime
  admits_small = leb→le p 61 (and_right (odd_prime p) (leb p 61) admitted)

  admits_modulus : Modulus p
  unfolding admitted_prime
  admits_modulus = record { small = admits_small; prime = and_left (odd_prime p) (leb p 61) admitted }

  pub admits_factor : (w : ℕ) (c : Bool) → c ≡ element p w → c ≡ true → Factor p w
  admits_factor w c g h = record { small = admits_small; word = element_below p w (true_T (element p w) (sym g ∙ h)) }

  pub admits_divisible : (s a b : ℕ) (c : Bool) → c ≡ element p s → c ≡ true → a < p → b < p → a ≢ b → Divisible p a b s
  admits_divisible s a b c g h la lb ne = record {
    exponents = record { modulus = admits_modulus; apart = (la, lb, ne) };
    word = (admits_factor s c g h).word;
  }

-- ---- the ways out of `product` and `divide`

module _ (p u v : ℕ) (t : Bool) (e : t ≡ admitted_prime p) where
  pub product_unprime : t ≡ false → Err Prime ≡ product_answer p u v
  unfolding product_answer
  product_unprime f = simp (sym e ∙ f)

  module _ (f : t ≡ true) (c : Bool) (g : c ≡ element p u) where
    pub product_first_odd : c ≡ false → Err NotElement ≡ product_answer p u v
    unfolding product_answer
    product_first_odd h = simp (sym e ∙ f, sym g ∙ h)

    module _ (h : c ≡ true) (d : Bool) (i : d ≡ element p v) where
      pub product_second_odd : d ≡ false → Err NotElement ≡ product_answer p u v
      unfolding product_answer
      product_second_odd j = simp (sym e ∙ f, sym g ∙ h, sym i ∙ j)

      pub product_found : d ≡ true → (w : ℕ) → w ≡ product_of p u v → Ok w ≡ product_answer p u v
      unfolding product_answer
      product_found j w k = simp (sym e ∙ f, sym g ∙ h, sym i ∙ j) (ap Ok k)

pub ruleset products = (product_unprime, product_first_odd, product_second_odd, product_found)

module _ (p s a b : ℕ) (t : Bool) (e : t ≡ admitted_prime p) where
  pub divide_unprime : t ≡ false → Err Prime ≡ divide_answer p s a b
  unfolding divide_answer
  divide_unprime f = simp (sym e ∙ f)

  module _ (f : t ≡ true) (c : Bool) (g : c ≡ element p s) where
    pub divide_odd : c ≡ false → Err NotElement ≡ divide_answer p s a b
    unfolding divide_answer
    divide_odd h = simp (sym e ∙ f, sym g ∙ h)

    module _ (h : c ≡ true) where
      pub divide_first_high : p ≤ a → Err Exponent ≡ divide_answer p s a b
      unfolding divide_answer different
      divide_first_high i = simp (sym e ∙ f, sym g ∙ h, le-ltb a p i)

      pub divide_second_high : a < p → p ≤ b → Err Exponent ≡ divide_answer p s a b
      unfolding divide_answer different
      divide_second_high i j = simp (sym e ∙ f, sym g ∙ h, lt-ltb a p i, le-ltb b p j)

      pub divide_alike : a < p → b < p → a ≡ b → Err Exponent ≡ divide_answer p s a b
      unfolding divide_answer different
      divide_alike i j k = simp (sym e ∙ f, sym g ∙ h, lt-ltb a p i, lt-ltb b p j, eq-eqb a b k)

      pub divide_found : a < p → b < p → a ≢ b → (w : ℕ) → w ≡ over_of p a b s → Ok w ≡ divide_answer p s a b
      unfolding divide_answer different
      divide_found i j k w l =
          simp (sym e ∙ f, sym g ∙ h, lt-ltb a p i, lt-ltb b p j, ne_eqb a b k) (ap Ok l)

pub ruleset divides = (divide_unprime, divide_odd, divide_first_high, divide_second_high, divide_alike, divide_found)
