-- What each function of the ring owes, over plain numbers.
-- Assumes nothing.
use Prim.Native.Nat.{ℕ, zero, suc, ◌+◌, ◌-◌, ◌*◌, ◌/◌, ◌%◌, ◌^◌, ◌<◌, ◌≤◌}
use mathlib.Core.Logic.{◌≢◌}
use mathlib.Core.Path.{◌≡◌, refl, sym, ap, ap₂, subst, ◌∙◌}
use native.Mathlib.Decide.{dec_lt}
use native.Mathlib.Nat.{mod-eq_of_lt, mod-lt, add-mod_right}
use native.Mathlib.Omega.{arith}
use lib.Arith.{digits_lt}
use lib.Bits.{bit_xor}
use lib.Dec.{T, ltb, ltb→lt}
use lib.Pow.{split, pow_pos, pow_mono, pow-add, pow-lt, shr_lt}
use borrow.Author.Tests.{eq-eqb, ne_eqb}
use Rattle.laws.proofs.Bit.{bit_shr, bit_mod, bit_low, bit_high, is_pack, pack_ext, pack_xor, pack_zero, pack_pick}
use Rattle.laws.proofs.Choose.{implied, below_at}
use Rattle.laws.specs.Bit.{bit, pack}
use Rattle.laws.specs.Choose.{implies, below}
use Rattle.laws.specs.Sum.{pick, sum}
use Rattle.laws.specs.Xor.{◌⊕◌}
use Rattle.algebra.proofs.Divide.{gap_pos}
use Rattle.algebra.proofs.Inverse.{word}
use Rattle.algebra.proofs.Lane.{lower}
use Rattle.algebra.proofs.Period.{level}
use Rattle.algebra.proofs.Word.{lane_of_periodic, lane_of_digit}
use Rattle.algebra.proofs.Words.{product_over}
use Rattle.algebra.specs.Divide.{evens, inv, quot, turn, gap}
use Rattle.algebra.specs.Lane.{D, act}
use Rattle.algebra.specs.Prime.{odd_prime}
use Rattle.algebra.specs.Word.{lane_of, pred, turn_of, times_of, product_of, inverse_of, over_of}
use Rattle.ring.specs.Ring.{Step, Exponents}

-- ---- rotate

module _ (w a p : ℕ) (hw : w < 2 ^ p) (ha : a ≤ p) (hp : p ≤ 61) where
  wide : 2 ^ p ≤ 2 ^ 61
  wide = pow_mono hp

  exact : w / 2 ^ (p - a) * 2 ^ (p - a) % 2 ^ 64 ≡ w / 2 ^ (p - a) * 2 ^ (p - a)
  exact = mod-eq_of_lt (omega (arith, split w (p - a), wide))

  pub cut_in : w / 2 ^ (p - a) * 2 ^ (p - a) % 2 ^ 64 ≤ w
  cut_in = rw exact (omega (arith, split w (p - a)))

  low_is : w - w / 2 ^ (p - a) * 2 ^ (p - a) % 2 ^ 64 ≡ w % 2 ^ (p - a)
  low_is = rw exact (omega (arith, split w (p - a)))

  low_lt : w % 2 ^ (p - a) < 2 ^ (p - a)
  low_lt = mod-lt w (pow_pos (p - a))

  high_lt : w / 2 ^ (p - a) < 2 ^ a
  high_lt = let e : p ≡ a + (p - a) = omega arith in shr_lt a (p - a) (subst (λ (x : ℕ). w < 2 ^ x) e hw)

  -- side by side
  turned_lt : w % 2 ^ (p - a) * 2 ^ a + w / 2 ^ (p - a) < 2 ^ p
  turned_lt =
      let e : p - a + a ≡ p = omega arith in
      subst (λ (x : ℕ). w % 2 ^ (p - a) * 2 ^ a + w / 2 ^ (p - a) < x) (sym (pow-add 2 (p - a) a) ∙ ap (λ (x : ℕ). 2 ^ x) e) (digits_lt low_lt high_lt)

  turn_is : (w - w / 2 ^ (p - a) * 2 ^ (p - a) % 2 ^ 64) * 2 ^ a % 2 ^ 64 + w / 2 ^ (p - a) ≡ w % 2 ^ (p - a) * 2 ^ a + w / 2 ^ (p - a)
  turn_is =
      let h : w % 2 ^ (p - a) * 2 ^ a < 2 ^ 64 = omega (arith, turned_lt, wide) in
      rw (low_is, mod-eq_of_lt h)

  pub turn_fits : (w - w / 2 ^ (p - a) * 2 ^ (p - a) % 2 ^ 64) * 2 ^ a % 2 ^ 64 + w / 2 ^ (p - a) < 2 ^ 64
  turn_fits = rw turn_is (omega (arith, turned_lt, wide))

  turn_bits : (q : ℕ) → q < p → bit (w % 2 ^ (p - a) * 2 ^ a + w / 2 ^ (p - a)) q ≡ bit w ((q + (p - a)) % p)
  unfolding bit
  turn_bits q h =
      elim (dec_lt q a) [
        | yes l ↦
            let e : p - a + q ≡ q + (p - a) = omega arith in
            bit_low (w % 2 ^ (p - a)) a q high_lt l ∙ bit_shr w (p - a) q ∙ ap (bit w) (e ∙ sym (mod-eq_of_lt (omega arith)))
        | no n ↦
            let e : a + (q - a) ≡ q = omega arith in
            let f : q + (p - a) ≡ q - a + p = omega arith in
            subst (λ (x : ℕ). bit (w % 2 ^ (p - a) * 2 ^ a + w / 2 ^ (p - a)) x ≡ bit w (q - a)) e
            (bit_high (w % 2 ^ (p - a)) a (q - a) high_lt ∙ bit_mod w (p - a) (q - a) (omega arith))
            ∙ ap (bit w) (sym (ap (λ (x : ℕ). x % p) f ∙ add-mod_right (q - a) p ∙ mod-eq_of_lt (omega arith)))
      ]

  -- a place lower by a, as code has it and as `algebra` has it
  lane_lower : (q : ℕ) → q < p → bit w ((q + (p - a)) % p) ≡ lane_of p w (q + a * pred p)
  unfolding lane_of
  lane_lower q h = go p ha h
    where
      go : (p : ℕ) → a ≤ p → q < p → bit w ((q + (p - a)) % p) ≡ lane_of p w (q + a * pred p)
      go zero l h = absurd (omega arith)
      go (suc n) l h = lower n (lane_of (suc n) w) (lane_of_periodic (suc n) w) a q l

  pub turned : (w - w / 2 ^ (p - a) * 2 ^ (p - a) % 2 ^ 64) * 2 ^ a % 2 ^ 64 + w / 2 ^ (p - a) ≡ turn_of p a w
  unfolding turn_of
  turned =
      turn_is
      ∙ is_pack p (w % 2 ^ (p - a) * 2 ^ a + w / 2 ^ (p - a)) (λ q. lane_of p w (q + a * pred p)) turned_lt
      (λ q h. turn_bits q h ∙ lane_lower q h ∙ sym (mod-eq_of_lt (lane_of_digit p w (q + a * pred p))))

pub ruleset rotated = (cut_in, turn_fits, turned)

-- ---- times

pub both_turns : (p a b w x y : ℕ) → x ≡ turn_of p a w → y ≡ turn_of p b w → bit_xor x y ≡ times_of p a b w
unfolding turn_of times_of D ◌⊕◌
both_turns p a b w x y e f =
    ap₂ bit_xor e f ∙ pack_xor p (λ q. lane_of p w (q + a * pred p)) (λ q. lane_of p w (q + b * pred p))

-- ---- product

unfoldable pub product_to : ℕ → ℕ → ℕ → ℕ → ℕ
product_to p i u v = pack p (λ q. sum i (λ j. pick (bit u j) (lane_of p v (q + j * pred p))))

pub product_none : (p u v : ℕ) → 0 ≡ product_to p 0 u v
unfolding product_to sum
product_none p u v = sym (pack_zero p)

pub product_more : (p i u v s x y : ℕ) → s ≡ product_to p i u v → x ≡ turn_of p i v → y ≡ pick (u / 2 ^ i % 2) x → bit_xor s y ≡ product_to p (i + 1) u v
unfolding product_to turn_of sum bit ◌⊕◌
product_more p i u v s x y es ex ey =
    let l : ℕ → ℕ = λ q. lane_of p v (q + i * pred p) in
    let f : ℕ → ℕ = λ q. sum i (λ j. pick (bit u j) (lane_of p v (q + j * pred p))) in
    let k : i + 1 ≡ suc i = omega arith in
    ap₂ bit_xor es (ey ∙ ap (pick (bit u i)) ex ∙ sym (pack_pick p (bit u i) l))
    ∙ pack_xor p f (λ q. pick (bit u i) (l q))
    ∙ ap (λ (m : ℕ). pack p (λ q. sum m (λ j. pick (bit u j) (lane_of p v (q + j * pred p))))) (sym k)

whole_is : (p u v : ℕ) → product_to p p u v ≡ product_of p u v
unfolding product_to product_of act pack
whole_is zero u v = refl
whole_is (suc n) u v = refl

pub product_end : (p i u v s : ℕ) → s ≡ product_to p i u v → i ≤ p → p ≤ i → s ≡ product_of p u v
product_end p i u v s e h k = let z : i ≡ p = omega arith in e ∙ ap (λ (m : ℕ). product_to p m u v) z ∙ whole_is p u v

pub ruleset multiplied = (product_none, product_more, product_end)

-- ---- the inverse of 1 + x^c

evens_fit : T (below 61 (λ n. implies (odd_prime (suc n)) (below n (λ c. ltb (evens (suc n) (suc c) (suc n / 2)) (2 ^ suc n)))))
unfolding below implies odd_prime evens
evens_fit = tt

evens_lt : (p c : ℕ) → 0 < c → c < p → p ≤ 61 → T (odd_prime p) → evens p c (p / 2) < 2 ^ p
evens_lt zero c h k l t = absurd (omega arith)
evens_lt (suc n) zero h k l t = absurd (omega arith)
evens_lt (suc n) (suc c) h k l t =
    ltb→lt _ _
    (below_at (λ d. ltb (evens (suc n) (suc d) (suc n / 2)) (2 ^ suc n)) n
    (implied _ _ (below_at (λ m. implies (odd_prime (suc m)) (below m (λ d. ltb (evens (suc m) (suc d) (suc m / 2)) (2 ^ suc m)))) 61 evens_fit n (omega arith)) t) c (omega arith))

evens_mono : (p c m k : ℕ) → m ≤ k → evens p c m ≤ evens p c k
unfolding evens
evens_mono p c m zero h = let e : m ≡ 0 = omega arith in subst (λ (x : ℕ). evens p c x ≤ 1) (sym e) (omega arith)
evens_mono p c m (suc k) h =
    elim (dec_lt k m) [
      | yes l ↦ let e : m ≡ suc k = omega arith in subst (λ (x : ℕ). evens p c x ≤ evens p c (suc k)) (sym e) (omega arith)
      | no l ↦ omega (arith, evens_mono p c m k (omega arith))
    ]

module _ (c p : ℕ) (h0 : 0 < c) (hc : c < p) (hp : p ≤ 61) (prime : T (odd_prime p)) where
  term : (m : ℕ) → 1 * 2 ^ (2 * m * c % p) % 2 ^ 64 ≡ 2 ^ (2 * m * c % p)
  term m =
      let l : 2 * m * c % p < p = mod-lt (2 * m * c) (omega arith) in
      let k : 2 * m * c % p < 64 = omega arith in
      let g : 1 * 2 ^ (2 * m * c % p) < 2 ^ 64 = omega (arith, pow-lt k) in
      mod-eq_of_lt g ∙ omega arith

  pub spread_more : (m s : ℕ) → s ≡ evens p c m → s + 1 * 2 ^ (2 * (m + 1) * c % p) % 2 ^ 64 ≡ evens p c (m + 1)
  unfolding evens
  spread_more m s e =
      let k : m + 1 ≡ suc m = omega arith in
      ap₂ (λ (x y : ℕ). x + y) e (term (m + 1) ∙ ap (λ (x : ℕ). 2 ^ (2 * x * c % p)) k) ∙ ap (evens p c) (sym k)

  wide_all : 2 ^ p ≤ 2 ^ 61
  wide_all = pow_mono hp

  pub spread_fits : (m s : ℕ) → s ≡ evens p c m → m < p / 2 → s + 1 * 2 ^ (2 * (m + 1) * c % p) % 2 ^ 64 < 2 ^ 64
  spread_fits m s e h = omega (arith, spread_more m s e, evens_mono p c (m + 1) (p / 2) (omega arith), evens_lt p c h0 hc hp prime, wide_all)

  pub spread_end : (m s : ℕ) → s ≡ evens p c m → m ≤ p / 2 → p / 2 ≤ m → s ≡ evens p c (p / 2)
  spread_end m s e h k = let z : m ≡ p / 2 = omega arith in e ∙ ap (evens p c) z

pub chosen : (b w : ℕ) → b % 2 ≡ 1 → w ≡ pick (b % 2) w
unfolding pick
chosen b w e = sym (ap (λ (x : ℕ). pick x w) e)

pub unchosen : (b w : ℕ) → b % 2 ≢ 1 → 0 ≡ pick (b % 2) w
unfolding pick
unchosen b w h = let e : b % 2 ≡ 0 = omega arith in sym (ap (λ (x : ℕ). pick x w) e)

pub ruleset picks = (chosen, unchosen)

pub spread_none : (p c : ℕ) → 1 ≡ evens p c 0
unfolding evens
spread_none p c = refl

pub ruleset spreading = (spread_none, spread_fits, spread_more, spread_end)

module _ (c p : ℕ) (h0 : 0 < c) (hc : c < p) (hp : p ≤ 61) (prime : T (odd_prime p)) where
  top : 1 * 2 ^ p % 2 ^ 64 ≡ 2 ^ p
  top =
      let w : 2 ^ p ≤ 2 ^ 61 = pow_mono hp in
      let g : 1 * 2 ^ p < 2 ^ 64 = omega arith in
      mod-eq_of_lt g ∙ omega arith

  pub ones_room : 1 ≤ 1 * 2 ^ p % 2 ^ 64
  ones_room = omega (arith, top, pow_pos p)

  pub ones_in : (s : ℕ) → s ≡ evens p c (p / 2) → s ≤ 1 * 2 ^ p % 2 ^ 64 - 1
  ones_in s e = omega (arith, top, evens_lt p c h0 hc hp prime)

  pub inv_turned : (s : ℕ) → s ≡ evens p c (p / 2) → p % 4 ≡ 1 → 1 * 2 ^ p % 2 ^ 64 - 1 - s ≡ inv p c
  unfolding inv
  inv_turned s e h = rw (eq-eqb (p % 4) 1 h) (ap₂ (λ (x y : ℕ). x - 1 - y) top e)

  pub inv_plain : (s : ℕ) → s ≡ evens p c (p / 2) → p % 4 ≢ 1 → s ≡ inv p c
  unfolding inv
  inv_plain s e h = rw (ne_eqb (p % 4) 1 h) e

  pub inv_lt : (x : ℕ) → x ≡ inv p c → x < 2 ^ p
  inv_lt x e = subst (λ (y : ℕ). y < 2 ^ p) (sym e) (go p c h0 hc hp prime)
    where
      go : (p c : ℕ) → 0 < c → c < p → p ≤ 61 → T (odd_prime p) → inv p c < 2 ^ p
      go zero c h k l t = absurd (omega arith)
      go (suc n) zero h k l t = absurd (omega arith)
      go (suc n) (suc d) h k l t = (word n d (omega arith) t (omega arith)).fits

pub ruleset inverting = (ones_room, ones_in, inv_turned, inv_plain)

-- ---- the inverse of x^a + x^b

gap_is : (n a b : ℕ) → a < suc n → b < suc n → a ≢ b → 0 < (b + (suc n - a)) % suc n
unfolding gap
gap_is n a b h k ne = gap_pos n a b h k ne

lane_back : (n a x q : ℕ) → a ≤ suc n → lane_of (suc n) x (q + (suc n - a) * n) ≡ bit x ((q + a) % suc n)
unfolding lane_of
lane_back n a x q h =
    level (suc n) (lane_of (suc n) x) (lane_of_periodic (suc n) x) 1 (suc n - a) (q + (suc n - a) * n) (q + a) (omega arith)

turn_back : (p a b : ℕ) → a ≤ p → turn_of p (p - a) (inv p ((b + (p - a)) % p)) ≡ inverse_of p a b
unfolding turn_of inverse_of quot turn gap pack
turn_back zero a b h = refl
turn_back (suc n) a b h =
    let x : ℕ = inv (suc n) ((b + (suc n - a)) % suc n) in
    pack_ext (suc n) (λ q. lane_of (suc n) x (q + (suc n - a) * n)) (λ q. bit x ((q + a) % suc n))
    (λ q l. ap (λ (y : ℕ). y % 2) (lane_back n a x q h))

module _ (a b p : ℕ) (ha : a < p) (hb : b < p) (ne : a ≢ b) where
  pub gap_above : 0 < (b + (p - a)) % p
  gap_above = go p ha hb
    where
      go : (p : ℕ) → a < p → b < p → 0 < (b + (p - a)) % p
      go zero h k = absurd (omega arith)
      go (suc n) h k = gap_is n a b h k ne

  pub gap_below : (b + (p - a)) % p < p
  gap_below = mod-lt (b + (p - a)) (omega arith)

  pub inverted : (x r : ℕ) → x ≡ inv p ((b + (p - a)) % p) → r ≡ turn_of p (p - a) x → r ≡ inverse_of p a b
  inverted x r e f = f ∙ ap (turn_of p (p - a)) e ∙ turn_back p a b (omega arith)

pub divided : (p a b w x r : ℕ) → x ≡ inverse_of p a b → r ≡ product_of p x w → r ≡ over_of p a b w
divided p a b w x r e f = f ∙ ap (λ (y : ℕ). product_of p y w) e ∙ product_over p a b w

pub inverse_lt : (a b p x : ℕ) → a < p → b < p → a ≢ b → p ≤ 61 → T (odd_prime p) → x ≡ inv p ((b + (p - a)) % p) → x < 2 ^ p
inverse_lt a b p x ha hb ne hp t e = inv_lt ((b + (p - a)) % p) p (gap_above a b p ha hb ne) (gap_below a b p ha hb ne) hp t x e

pub gap_step : (a b p : ℕ) → Exponents p a b → Step p ((b + (p - a)) % p)
gap_step a b p e = record {
  modulus = e.modulus;
  some = gap_above a b p e.apart.0 e.apart.1 e.apart.2;
  low = gap_below a b p e.apart.0 e.apart.1 e.apart.2;
}

pub ruleset inverses = (inverse_lt, gap_step, inverted)
