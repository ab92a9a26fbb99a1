-- Laws of decimal numbers.
-- Assumes nothing.
use Rattle.std.proofs.Common.{◌≡◌, ℕ, ◌+◌, ◌-◌, ◌*◌, ◌^◌, ◌<◌, ◌≤◌, Bool, true, false, ◌&&◌, Option, Some, None, List, [], ◌∷◌, length, get_or, drop, refl, sym, ◌∙◌, add-one, arith}
use Rattle.std.proofs.Math.Dec.{ltb}
use Rattle.std.proofs.Math.ListN.{drop_of_length-le}
use Rattle.std.proofs.Math.Seq.{drop-cons}
use borrow.Author.Tests.{lt-ltb, le-ltb}
use Rattle.laws.specs.Choose.{choose}
use Rattle.words.specs.Decimal.{is_digit, digit_of, all_digits, is_numeral, spelled, decimal_of}

-- what n becomes when the digits of s are written behind it, if s is digits and the number is one of 64 bits
abbrev pub behind : ℕ → List ℕ → Option ℕ
behind n s = choose (all_digits s && ltb (spelled n s) (2 ^ 64)) (Some (spelled n s)) None

pub no_word : (s : List ℕ) → length s ≡ 0 → None ≡ decimal_of s
unfolding decimal_of is_numeral
no_word [] h = refl
no_word (c ∷ s) h = absurd (omega arith)

pub nothing_behind : (s : List ℕ) → (length s ≡ 0 → ⊥) → behind 0 (drop 0 s) ≡ decimal_of s
unfolding decimal_of is_numeral all_digits
nothing_behind [] z = absurd (z refl)
nothing_behind (c ∷ s) z = refl

spelled_low : (s : List ℕ) (n : ℕ) → n ≤ spelled n s
unfolding spelled
spelled_low [] n = omega arith
spelled_low (c ∷ s) n = omega (arith, spelled_low s (n * 10 + (c - 48)))

large : (n : ℕ) (s : List ℕ) → 2 ^ 64 ≤ n → None ≡ behind n s
large n s h = go (all_digits s) (le-ltb (spelled n s) (2 ^ 64) (omega (arith, spelled_low s n)))
  where
    go : (t : Bool) → ltb (spelled n s) (2 ^ 64) ≡ false → None ≡ choose (t && ltb (spelled n s) (2 ^ 64)) (Some (spelled n s)) None
    go true e = rw e
    go false e = refl

-- a byte, and a number with it written behind
module _ (n c d : ℕ) (s : List ℕ) where
  other_behind : None ≡ digit_of c → None ≡ behind n (c ∷ s)
  unfolding all_digits
  other_behind e = go (is_digit c) e
    where
      go : (t : Bool) → None ≡ choose t (Some (c - 48)) None → None ≡ choose (t && all_digits s && ltb (spelled n (c ∷ s)) (2 ^ 64)) (Some (spelled n (c ∷ s))) None
      go true f = cc
      go false f = refl

  digit_behind : Some d ≡ digit_of c → behind n (c ∷ s) ≡ behind (n * 10 + d) s
  unfolding all_digits spelled
  digit_behind e = go (is_digit c) e
    where
      go : (t : Bool) → Some d ≡ choose t (Some (c - 48)) None
          → choose (t && all_digits s && ltb (spelled (n * 10 + (c - 48)) s) (2 ^ 64)) (Some (spelled (n * 10 + (c - 48)) s)) None ≡ behind (n * 10 + d) s
      go true f = let g : c - 48 ≡ d = cc in rw g
      go false f = cc

-- from place i of a word on
module _ (s : List ℕ) (i n : ℕ) (h : i < length s) (so_far : behind n (drop i s) ≡ decimal_of s) where
  pub no_digit : None ≡ digit_of (get_or s i 0) → None ≡ decimal_of s
  no_digit e = other_behind n (get_or s i 0) 0 (drop (i + 1) s) e ∙ rw (add-one, ← drop-cons s i 0) so_far

  pub one_more : (d : ℕ) → Some d ≡ digit_of (get_or s i 0) → behind (n * 10 + d) (drop (i + 1) s) ≡ decimal_of s
  one_more d e = sym (digit_behind n (get_or s i 0) d (drop (i + 1) s) e) ∙ rw (add-one, ← drop-cons s i 0) so_far

  pub too_large : (d : ℕ) → Some d ≡ digit_of (get_or s i 0) → 2 ^ 64 ≤ n * 10 + d → None ≡ decimal_of s
  too_large d e l = large (n * 10 + d) (drop (i + 1) s) l ∙ one_more d e

pub all_behind : (s : List ℕ) (i n : ℕ) → length s ≤ i → n < 2 ^ 64 → behind n (drop i s) ≡ decimal_of s → Some n ≡ decimal_of s
unfolding all_digits spelled
all_behind s i n h l e = sym (rw (drop_of_length-le s h) (rw (lt-ltb n (2 ^ 64) l))) ∙ e
