-- Division of an even lane by x^a + x^b: the quotient exists, and there is no other.
-- Assumes nothing.
use Prim.Native.Nat.{ℕ, zero, suc, ◌+◌, ◌-◌, ◌*◌, ◌/◌, ◌%◌, ◌≤◌, ◌<◌}
use mathlib.Core.Logic.{◌≢◌}
use mathlib.Core.Path.{◌≡◌, sym, ap, ap₂, ◌∙◌, fun_ext}
use native.Mathlib.Nat.{add-mod_right, mod-eq_of_lt, mod-add-div', mod-lt, zero-lt-suc}
use native.Mathlib.Omega.{arith}
use lib.Dec.{T}
use Rattle.laws.proofs.Bit.{bit_digit}
use Rattle.laws.proofs.Sum.{sum_ext, sum_all, sum_add, sum_front, sum_back, sum_reverse}
use Rattle.laws.proofs.Xor.{⊕_assoc, ⊕_self, ⊕_zero, zero_⊕}
use Rattle.laws.specs.Bit.{bit}
use Rattle.laws.specs.Sum.{pick, sum}
use Rattle.laws.specs.Xor.{◌⊕◌}
use Rattle.algebra.proofs.Inverse.{Inverts, Word, word}
use Rattle.algebra.proofs.Lane.{lower, act_periodic, D_act}
use Rattle.algebra.proofs.Period.{level, rotate}
use Rattle.algebra.specs.Divide.{inv, turn, gap, quot}
use Rattle.algebra.specs.Lane.{Periodic, D, act, Even}
use Rattle.algebra.specs.Prime.{odd_prime}

pick_one : (x y v : ℕ) → x + y ≡ 1 → pick x v ⊕ pick y v ≡ v
unfolding pick
pick_one zero y v e = let z : y ≡ 1 = omega arith in zero_⊕ (pick y v) ∙ ap (λ (k : ℕ). pick k v) z
pick_one (suc x) zero v e = ⊕_zero v
pick_one (suc x) (suc y) v e = absurd (omega arith)

module _ (n : ℕ) where
  pub act_turn : (k : ℕ) (w f : ℕ → ℕ) → Periodic (suc n) f → (q : ℕ) → act n (turn n k w) f q ≡ act n w f (q + k)
  unfolding act turn
  act_turn k w f h q =
      let G : ℕ → ℕ = λ j. pick (w (j % suc n)) (f (q + k + j * n)) in
      sum_all (suc n) (λ i. ap (pick (w ((i + k) % suc n))) (level (suc n) f h k 0 (q + i * n) (q + k + (i + k) * n) (omega arith)))
      ∙ rotate (suc n) G (λ j. ap₂ (λ (x y : ℕ). pick (w x) y) (add-mod_right j (suc n)) (level (suc n) f h 0 n (q + k + (j + suc n) * n) (q + k + j * n) (omega arith))) k
      ∙ sum_ext (suc n) (λ j l. ap (λ (x : ℕ). pick (w x) (f (q + k + j * n))) (mod-eq_of_lt l))

  -- x + x² + … + x^(p-1) is 1 on even lanes
  pub tail : (f : ℕ → ℕ) → Periodic (suc n) f → Even n f → (q : ℕ) → sum n (λ i. f (q + suc i * n)) ≡ f q
  tail f h e q =
      let G : ℕ → ℕ = λ j. f (q + j) in
      let whole : sum n (λ i. G (n - i)) ⊕ f q ≡ 0 =
      ap (λ (x : ℕ). sum n (λ i. G (n - i)) ⊕ f x) (omega arith) ∙ sym (sum_back n (λ i. G (n - i)))
      ∙ sum_reverse n G ∙ sum_all (suc n) (λ j. ap f (omega arith)) ∙ rotate (suc n) f h q ∙ e in
      sum_ext n (λ i l. sym (lower n f h (suc i) q (omega arith)) ∙ ap f (omega arith))
      ∙ sym (⊕_zero _) ∙ ap (λ (x : ℕ). sum n (λ i. G (n - i)) ⊕ x) (sym (⊕_self (f q)))
      ∙ sym (⊕_assoc (sum n (λ i. G (n - i))) (f q) (f q)) ∙ ap (λ (x : ℕ). x ⊕ f q) whole ∙ zero_⊕ (f q)

  pub inverse : (b : ℕ) (w f : ℕ → ℕ) → Inverts n b w → b ≤ suc n → Periodic (suc n) f → Even n f → (q : ℕ) → D n 0 b (act n w f) q ≡ f q
  unfolding D act turn
  inverse b w f r k h e q =
      let w' : ℕ → ℕ = turn n (suc n - b) w in
      let t : ℕ → ℕ = λ i. f (q + i * n) in
      let z : q + 0 * n ≡ q = omega arith in
      ap₂ ◌⊕◌ (ap (act n w f) z) (sym (lower n (act n w f) (act_periodic n w f h) b q k) ∙ sym (act_turn (suc n - b) w f h q))
      ∙ sym (sum_add (suc n) (λ i. pick (w i) (t i)) (λ i. pick (w' i) (t i)))
      ∙ sum_front n (λ i. pick (w i) (t i) ⊕ pick (w' i) (t i))
      ∙ ap₂ ◌⊕◌ (ap (λ (x : ℕ). pick x (t 0) ⊕ pick (w' 0) (t 0)) r.at_zero ∙ ⊕_self (pick (w' 0) (t 0)))
      (sum_ext n (λ i l. pick_one (w (suc i)) (w' (suc i)) (t (suc i)) (r.at_suc i l)))
      ∙ zero_⊕ (sum n (λ i. t (suc i))) ∙ tail f h e q

  pub word_at : n < 61 → T (odd_prime (suc n)) → (b : ℕ) → 0 < b → b ≤ n → Word n b (inv (suc n) b)
  word_at small prime zero h k = absurd (omega arith)
  word_at small prime (suc c) h k = word n c small prime k

  -- ---- by x^a + x^b, which is x^a (1 + x^c)

  -- what a word must be for 1 + x^c
  pub shifted : (a b : ℕ) (w f : ℕ → ℕ) → a ≤ suc n → Inverts n (gap n a b) w → Periodic (suc n) f → Even n f
      → (q : ℕ) → D n a b (act n (turn n a w) f) q ≡ f q
  unfolding D gap
  shifted a b w f k r h e q =
      let c : ℕ = gap n a b in
      let m : ℕ = (b + (suc n - a)) / suc n in
      let d : ℕ = suc n - a in
      let g : ℕ → ℕ = act n w f in
      let hg : Periodic (suc n) g = act_periodic n w f h in
      let eq : c + m * suc n ≡ b + d = mod-add-div' (b + (suc n - a)) (suc n) in
      let lt : c < suc n = mod-lt (b + (suc n - a)) (zero-lt-suc n) in
      ap₂ ◌⊕◌ (act_turn a w f h (q + a * n)) (act_turn a w f h (q + b * n))
      ∙ ap₂ ◌⊕◌ (level (suc n) g hg 0 a (q + a * n + a) (q + 0 * n) (omega arith))
      (level (suc n) g hg d (m * n + 1) (q + b * n + a) (q + c * n) (omega (arith, ap (λ (x : ℕ). x * n) eq)))
      ∙ inverse c w f r (omega arith) h e q

  pub gap_pos : (a b : ℕ) → a < suc n → b < suc n → a ≢ b → 0 < gap n a b
  unfolding gap
  gap_pos a b ha hb ne = go ((b + (suc n - a)) / suc n) (mod-add-div' (b + (suc n - a)) (suc n))
    where
      go : (m : ℕ) → (b + (suc n - a)) % suc n + m * suc n ≡ b + (suc n - a) → 0 < (b + (suc n - a)) % suc n
      go zero e = omega arith
      go (suc zero) e = omega arith
      go (suc (suc m)) e = omega arith

  pub gap_lt : (a b : ℕ) → gap n a b < suc n
  unfolding gap
  gap_lt a b = mod-lt (b + (suc n - a)) (zero-lt-suc n)

  pub divides : n < 61 → T (odd_prime (suc n)) → (a b : ℕ) (f : ℕ → ℕ) → a < suc n → b < suc n → a ≢ b → Periodic (suc n) f → Even n f
      → (q : ℕ) → D n a b (act n (quot n a b) f) q ≡ f q
  unfolding quot
  divides small prime a b f ha hb ne h e =
      shifted a b (bit (inv (suc n) (gap n a b))) f (omega arith)
      (word_at small prime (gap n a b) (gap_pos a b ha hb ne) (omega (arith, gap_lt a b))).inverts h e

  -- the quotient is the only even lane g with (x^a + x^b) g = f
  pub only : n < 61 → T (odd_prime (suc n)) → (a b : ℕ) (f g : ℕ → ℕ) → a < suc n → b < suc n → a ≢ b → Periodic (suc n) g → Even n g
      → ((q : ℕ) → D n a b g q ≡ f q) → (q : ℕ) → g q ≡ act n (quot n a b) f q
  only small prime a b f g ha hb ne h e s q =
      sym (divides small prime a b g ha hb ne h e q) ∙ D_act n a b (quot n a b) g q ∙ ap (λ (k : ℕ → ℕ). act n (quot n a b) k q) (fun_ext s)

  pub quot_digit : (a b i : ℕ) → quot n a b i < 2
  unfolding quot turn
  quot_digit a b i = bit_digit (inv (suc n) (gap n a b)) ((i + a) % suc n)

  pub quot_periodic : (a b : ℕ) → Periodic (suc n) (quot n a b)
  unfolding quot turn
  quot_periodic a b q =
      let e : q + suc n + a ≡ q + a + suc n = omega arith in
      ap (bit (inv (suc n) (gap n a b))) (ap (λ (x : ℕ). x % suc n) e ∙ add-mod_right (q + a) (suc n))
