-- Division on words is right, and only it; the order of its exponents does not matter; even weight by counting bits.
-- Assumes nothing.
use Prim.Native.Nat.{ℕ, zero, suc, ◌+◌, ◌%◌, ◌^◌, ◌<◌, ◌≤◌, ◌-◌}
use mathlib.Core.Path.{◌≡◌, refl, sym, ap, subst, ◌∙◌, fun_ext}
use native.Mathlib.Nat.{mod-eq_of_lt}
use native.Mathlib.Omega.{arith}
use lib.Dec.{T, ltb, eqb, ltb→lt, lt→ltb, eqb→eq}
use Rattle.laws.proofs.Bit.{bit_digit, pack_lt, bit_pack}
use Rattle.laws.proofs.Choose.{and_left, and_right, both_T, implied, below_at}
use Rattle.laws.proofs.Sum.{sum_ext}
use Rattle.laws.specs.Bit.{bit, pack, weight}
use Rattle.laws.specs.Choose.{below, implies}
use Rattle.laws.specs.Sum.{pick, sum}
use Rattle.algebra.proofs.Action.{act_word_one}
use Rattle.algebra.proofs.Column.{act_lt, D_lt, act_ext}
use Rattle.algebra.proofs.Divide.{divides, only, quot_periodic, quot_digit, gap_pos, gap_lt, word_at}
use Rattle.algebra.proofs.Lane.{D_act, D_periodic, D_sym, act_periodic, act_even, act_code, act_swap}
use Rattle.algebra.proofs.Period.{rotate}
use Rattle.algebra.proofs.Prime.{prime_three}
use Rattle.algebra.proofs.Weight.{weigh}
use Rattle.algebra.proofs.Word.{pack_lane_of, lane_of_pack, lane_of_digit, lane_of_at, lane_of_periodic}
use Rattle.algebra.specs.Divide.{quot, over, inv, gap, turn}
use Rattle.algebra.specs.Lane.{D, act, Even, Apart}
use Rattle.algebra.specs.Prime.{odd_prime}
use Rattle.algebra.specs.Word.{lane_of, times_of, over_of, element, one, product_of, inverse_of, pred}

module _ (n : ℕ) where
  pub lane_times : (a b w : ℕ) → lane_of (suc n) (times_of (suc n) a b w) ≡ D n a b (lane_of (suc n) w)
  unfolding times_of
  lane_times a b w =
      fun_ext (lane_of_pack n (D n a b (lane_of (suc n) w)) (D_periodic n a b (lane_of (suc n) w) (lane_of_periodic (suc n) w)) (D_lt n 1 a b (lane_of (suc n) w) (lane_of_digit (suc n) w)))

  pub lane_over : (a b w : ℕ) → lane_of (suc n) (over_of (suc n) a b w) ≡ over n a b (lane_of (suc n) w)
  unfolding over_of
  lane_over a b w =
      fun_ext (lane_of_pack n (act n (quot n a b) (lane_of (suc n) w)) (act_periodic n (quot n a b) (lane_of (suc n) w) (lane_of_periodic (suc n) w))
      (act_lt n 1 (quot n a b) (lane_of (suc n) w) (lane_of_digit (suc n) w)))

  -- a word of even weight
  abbrev pub EvenWord : ℕ → Type 0
  EvenWord w = Even n (lane_of (suc n) w)

  module _ (small : n < 61) (prime : T (odd_prime (suc n))) (a b : ℕ) (h : Apart (suc n) a b) where
    pub times_over : (w : ℕ) → w < 2 ^ suc n → EvenWord w → times_of (suc n) a b (over_of (suc n) a b w) ≡ w
    unfolding times_of
    times_over w l e =
        ap (λ (f : ℕ → ℕ). pack (suc n) (D n a b f)) (lane_over a b w)
        ∙ ap (pack (suc n)) (fun_ext (divides n small prime a b (lane_of (suc n) w) h.0 h.1 h.2 (lane_of_periodic (suc n) w) e))
        ∙ pack_lane_of (suc n) w l

    pub over_even : (w : ℕ) → EvenWord w → EvenWord (over_of (suc n) a b w)
    over_even w e = subst (Even n) (sym (lane_over a b w)) (act_even n (quot n a b) (lane_of (suc n) w) (lane_of_periodic (suc n) w) e)

    -- the only word of even weight
    pub over_only : (w c : ℕ) → c < 2 ^ suc n → EvenWord c → times_of (suc n) a b c ≡ w → c ≡ over_of (suc n) a b w
    unfolding over_of
    over_only w c l e k =
        let s : D n a b (lane_of (suc n) c) ≡ lane_of (suc n) w = sym (lane_times a b c) ∙ ap (lane_of (suc n)) k in
        sym (pack_lane_of (suc n) c l)
        ∙ ap (pack (suc n)) (fun_ext (only n small prime a b (lane_of (suc n) w) (lane_of (suc n) c) h.0 h.1 h.2 (lane_of_periodic (suc n) c) e
        (λ q. ap (λ (f : ℕ → ℕ). f q) s)))

    -- the order of the exponents does not matter
    pub over_swap : (f : ℕ → ℕ) → ((q : ℕ) → f (q + suc n) ≡ f q) → Even n f → (q : ℕ) → over n b a f q ≡ over n a b f q
    over_swap f p e =
        only n small prime a b f (over n b a f) h.0 h.1 h.2 (act_periodic n (quot n b a) f p) (act_even n (quot n b a) f p e)
        (λ q. D_sym n a b (over n b a f) q ∙ divides n small prime b a f h.1 h.0 (λ z. h.2 (sym z)) p e q)

  digit_pick : (b : ℕ) → b < 2 → b ≡ pick b 1
  unfolding pick
  digit_pick zero h = refl
  digit_pick (suc zero) h = refl
  digit_pick (suc (suc b)) h = absurd (omega arith)

  weight_sum : (u : ℕ) → sum (suc n) (lane_of (suc n) u) ≡ pick (weight u (suc n) % 2) 1
  weight_sum u = sum_ext (suc n) (λ i l. lane_of_at (suc n) u i l ∙ digit_pick (bit u i) (bit_digit u i)) ∙ weigh u 1 (suc n)

  pub even_word : (u : ℕ) → weight u (suc n) % 2 ≡ 0 → EvenWord u
  unfolding pick
  even_word u e = weight_sum u ∙ ap (λ (k : ℕ). pick k 1) e

  pick_none : (k : ℕ) → pick k 1 ≡ 0 → k ≡ 0
  unfolding pick
  pick_none zero h = refl
  pick_none (suc k) h = absurd (let z : ◌≡◌ {A = ℕ} 1 0 = h in omega arith)

  pub word_even : (u : ℕ) → EvenWord u → weight u (suc n) % 2 ≡ 0
  word_even u e = pick_none (weight u (suc n) % 2) (sym (weight_sum u) ∙ e)

-- ---- what document 01 says of words

pub times_lt : (p a b w : ℕ) → times_of p a b w < 2 ^ p
unfolding times_of
times_lt p a b w = pack_lt p (D (pred p) a b (lane_of p w))

pub over_lt : (p a b w : ℕ) → over_of p a b w < 2 ^ p
unfolding over_of
over_lt p a b w = pack_lt p (over (pred p) a b (lane_of p w))

-- c is a quotient of s by x^a + x^b: of even weight, no bit at p or above, and (x^a + x^b) · c = s
pub record Quotient (p s a b c : ℕ) : Type 0 where
  pub is_element : T (element p c)
  pub times_back : times_of p a b c ≡ s

pub element_below : (p w : ℕ) → T (element p w) → w < 2 ^ p
unfolding element
element_below p w t = ltb→lt w (2 ^ p) (and_left (ltb w (2 ^ p)) (eqb (weight w p % 2) 0) t)

pub element_weight : (p w : ℕ) → T (element p w) → weight w p % 2 ≡ 0
unfolding element
element_weight p w t = eqb→eq (weight w p % 2) 0 (and_right (ltb w (2 ^ p)) (eqb (weight w p % 2) 0) t)

pub is_element_of : (p w : ℕ) → w < 2 ^ p → weight w p % 2 ≡ 0 → T (element p w)
unfolding element
is_element_of p w h e =
    both_T (ltb w (2 ^ p)) (eqb (weight w p % 2) 0) (lt→ltb w (2 ^ p) h) (subst (λ (x : ℕ). T (eqb x 0)) (sym e) tt)

-- "Dividing an even-weight s by x^a + x^b gives the only even-weight c with (x^a + x^b)·c = s."
module _ (p : ℕ) (high : p ≤ 61) (prime : T (odd_prime p)) (s a b : ℕ) (apart : Apart p a b) (even : T (element p s)) where
  pub quotient_is : Quotient p s a b (over_of p a b s)
  quotient_is = go p high prime apart even
    where
      go : (p : ℕ) → p ≤ 61 → T (odd_prime p) → Apart p a b → T (element p s) → Quotient p s a b (over_of p a b s)
      go zero h t d e = absurd (omega (arith, prime_three 0 t))
      go (suc n) h t d e =
          let w : EvenWord n s = even_word n s (element_weight (suc n) s e) in
          record {
            is_element = is_element_of (suc n) (over_of (suc n) a b s) (over_lt (suc n) a b s) (word_even n (over_of (suc n) a b s) (over_even n h t a b d s w));
            times_back = times_over n h t a b d s (element_below (suc n) s e) w;
          }

  pub quotient_only : (c : ℕ) → Quotient p s a b c → c ≡ over_of p a b s
  quotient_only c r = go p high prime apart r
    where
      go : (p : ℕ) → p ≤ 61 → T (odd_prime p) → Apart p a b → Quotient p s a b c → c ≡ over_of p a b s
      go zero h t d r = absurd (omega (arith, prime_three 0 t))
      go (suc n) h t d r =
          over_only n h t a b d s c (element_below (suc n) c r.is_element) (even_word n c (element_weight (suc n) c r.is_element)) r.times_back

-- "Their one is e"
pub one_times : (n w : ℕ) → n < 61 → T (element (suc n) w) → product_of (suc n) (one (suc n)) w ≡ w
unfolding product_of
one_times n w h t =
    ap (pack (suc n)) (fun_ext (act_word_one n h (lane_of (suc n) w) (lane_of_periodic (suc n) w) (even_word n w (element_weight (suc n) w t))))
    ∙ pack_lane_of (suc n) w (element_below (suc n) w t)

-- "The inverse of x^a + x^b is the only even-weight u with (x^a + x^b)·u = e": it is the quotient of e
quot_even : (n a b : ℕ) → n < 61 → T (odd_prime (suc n)) → Apart (suc n) a b → Even n (quot n a b)
unfolding quot turn lane_of
quot_even n a b h t d =
    let u : ℕ = inv (suc n) (gap n a b) in
    rotate (suc n) (lane_of (suc n) u) (lane_of_periodic (suc n) u) a
    ∙ even_word n u (word_at n h t (gap n a b) (gap_pos n a b d.0 d.1 d.2) (omega (arith, gap_lt n a b))).even_weight

pub inverse_is : (n a b : ℕ) → n < 61 → T (odd_prime (suc n)) → Apart (suc n) a b → inverse_of (suc n) a b ≡ over_of (suc n) a b (one (suc n))
unfolding inverse_of over_of
inverse_is n a b h t d =
    let e : ℕ → ℕ = lane_of (suc n) (one (suc n)) in
    ap (pack (suc n)) (fun_ext (λ q.
    sym (act_swap n (quot n a b) e (quot_periodic n a b) (lane_of_periodic (suc n) (one (suc n))) (quot_digit n a b) (lane_of_digit (suc n) (one (suc n))) q
    ∙ act_ext n e (bit (one (suc n))) (quot n a b) (λ i l. lane_of_at (suc n) (one (suc n)) i l) q
    ∙ act_word_one n h (quot n a b) (quot_periodic n a b) (quot_even n a b h t d) q)))

ones_even : T (below 62 (λ p. implies (odd_prime p) (element p (one p))))
unfolding below implies odd_prime element weight bit
ones_even = tt

pub one_element : (p : ℕ) → p ≤ 61 → T (odd_prime p) → T (element p (one p))
one_element p h t = implied (odd_prime p) (element p (one p)) (below_at (λ p. implies (odd_prime p) (element p (one p))) 62 ones_even p (omega arith)) t

-- coefficient q of a product is the sum over i and j with i + j = q modulo p of the products of the coefficients
pub product_coefficient : (n u v q : ℕ) → q < suc n → bit (product_of (suc n) u v) q ≡ sum (suc n) (λ i. pick (bit u i) (bit v ((q + (suc n - i)) % suc n)))
unfolding product_of lane_of
product_coefficient n u v q h =
    bit_pack (suc n) (act n (bit u) (lane_of (suc n) v)) q h
    ∙ mod-eq_of_lt (act_lt n 1 (bit u) (lane_of (suc n) v) (lane_of_digit (suc n) v) q)
    ∙ act_code n (bit u) (lane_of (suc n) v) (lane_of_periodic (suc n) v) q

-- to divide is to multiply by the inverse
pub product_over : (p a b w : ℕ) → product_of p (inverse_of p a b) w ≡ over_of p a b w
unfolding product_of over_of inverse_of pack
product_over zero a b w = refl
product_over (suc n) a b w =
    ap (pack (suc n)) (fun_ext (act_ext n (bit (pack (suc n) (quot n a b))) (quot n a b) (lane_of (suc n) w)
    (λ i l. bit_pack (suc n) (quot n a b) i l ∙ mod-eq_of_lt (quot_digit n a b i))))

-- ---- products and quotients of one word

-- it may be multiplied before or after it is divided
pub times_past : (n a b c d w : ℕ) → times_of (suc n) a b (over_of (suc n) c d w) ≡ over_of (suc n) c d (times_of (suc n) a b w)
unfolding times_of over_of
times_past n a b c d w =
    ap (λ (f : ℕ → ℕ). pack (suc n) (D n a b f)) (lane_over n c d w)
    ∙ ap (pack (suc n)) (fun_ext (D_act n a b (quot n c d) (lane_of (suc n) w)))
    ∙ sym (ap (λ (f : ℕ → ℕ). pack (suc n) (over n c d f)) (lane_times n a b w))

-- a quotient has even weight, whatever is divided
quotient_even : (n a b w : ℕ) → n < 61 → T (odd_prime (suc n)) → Apart (suc n) a b → EvenWord n (over_of (suc n) a b w)
quotient_even n a b w h t d =
    let l : ℕ → ℕ = lane_of (suc n) w in
    subst (Even n)
    (sym (lane_over n a b w ∙ fun_ext (act_swap n (quot n a b) l (quot_periodic n a b) (lane_of_periodic (suc n) w) (quot_digit n a b) (lane_of_digit (suc n) w))))
    (act_even n l (quot n a b) (quot_periodic n a b) (quot_even n a b h t d))

-- multiplied by x^x + x^z, divided by x^y + x^z and then by x^x + x^z, it is divided by x^y + x^z alone
pub over_back : (n x y z w : ℕ) → n < 61 → T (odd_prime (suc n)) → Apart (suc n) x z → Apart (suc n) y z
    → over_of (suc n) x z (over_of (suc n) y z (times_of (suc n) x z w)) ≡ over_of (suc n) y z w
over_back n x y z w h t d e =
    let c : ℕ = over_of (suc n) y z w in
    ap (over_of (suc n) x z) (sym (times_past n x z y z w))
    ∙ sym (over_only n h t x z d (times_of (suc n) x z c) c (over_lt (suc n) y z w) (quotient_even n y z w h t e) refl)
