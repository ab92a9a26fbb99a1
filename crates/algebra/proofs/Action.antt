-- A word acts on a lane by its bits; the operations on words act as those on lanes do; e is the one.
-- Assumes nothing.
use Prim.Native.Nat.{ℕ, zero, suc, ◌+◌, ◌*◌, ◌<◌}
use mathlib.Core.Bool.{◌&&◌, Bool}
use mathlib.Core.Path.{◌≡◌, refl, sym, ap, ap₂, ◌∙◌, fun_ext}
use native.Mathlib.Nat.{mod-eq_of_lt}
use native.Mathlib.Omega.{arith}
use lib.Dec.{T, eqb, eqb→eq}
use Rattle.laws.proofs.Bit.{bit_of_xor, bit_pack, bit_digit, bit_zero}
use Rattle.laws.proofs.Choose.{below_at, and_left, and_right}
use Rattle.laws.proofs.Sum.{sum_ext, sum_all, sum_none, sum_add, sum_pick, sum_swap, sum_front}
use Rattle.laws.proofs.Xor.{⊕_self, ⊕_zero, zero_⊕}
use Rattle.laws.specs.Bit.{bit, pack}
use Rattle.laws.specs.Choose.{below}
use Rattle.laws.specs.Sum.{pick, sum}
use Rattle.laws.specs.Xor.{◌⊕◌}
use Rattle.algebra.proofs.Column.{act_ext, act_lt, D_lt, sum_lt}
use Rattle.algebra.proofs.Divide.{act_turn, tail, quot_digit}
use Rattle.algebra.proofs.Word.{lane_of_digit}
use Rattle.algebra.specs.Divide.{turn, quot}
use Rattle.algebra.specs.Lane.{Periodic, D, act, Even}
use Rattle.algebra.specs.Word.{lane_of, times_of, over_of, inverse_of, one}

-- ---- picking by a sum of bits

pub pick_xor : (a b m : ℕ) → a < 2 → b < 2 → pick (a ⊕ b) m ≡ pick a m ⊕ pick b m
unfolding pick ◌⊕◌
pick_xor zero zero m h k = sym (⊕_zero 0)
pick_xor zero (suc zero) m h k = sym (zero_⊕ m)
pick_xor (suc zero) zero m h k = sym (⊕_zero m)
pick_xor (suc zero) (suc zero) m h k = sym (⊕_self m)
pick_xor zero (suc (suc b)) m h k = absurd (omega arith)
pick_xor (suc zero) (suc (suc b)) m h k = absurd (omega arith)
pick_xor (suc (suc a)) b m h k = absurd (omega arith)

pick_nest : (a b m : ℕ) → pick (pick a b) m ≡ pick a (pick b m)
unfolding pick
pick_nest zero b m = refl
pick_nest (suc a) b m = refl

pick_digit : (a b : ℕ) → b < 2 → pick a b < 2
unfolding pick
pick_digit zero b h = omega arith
pick_digit (suc a) b h = h

pick_sum : (k : ℕ) (h : ℕ → ℕ) (m : ℕ) → ((j : ℕ) → h j < 2) → pick (sum k h) m ≡ sum k (λ j. pick (h j) m)
unfolding sum pick
pick_sum zero h m d = refl
pick_sum (suc k) h m d = pick_xor (sum k h) (h k) m (sum_lt 1 k h (λ j l. d j)) (d k) ∙ ap (λ (x : ℕ). x ⊕ pick (h k) m) (pick_sum k h m d)

-- the bits of e = x + x² + … + x^(p-1)
e_bits : T (below 61 (λ n. eqb (bit (one (suc n)) 0) 0 && below n (λ i. eqb (bit (one (suc n)) (suc i)) 1)))
unfolding below bit
e_bits = tt

module _ (n : ℕ) where
  act_xor : (v w f : ℕ → ℕ) (q : ℕ) → ((i : ℕ) → v i < 2) → ((i : ℕ) → w i < 2) → act n (λ i. v i ⊕ w i) f q ≡ act n v f q ⊕ act n w f q
  unfolding act
  act_xor v w f q h k =
      sum_all (suc n) (λ i. pick_xor (v i) (w i) (f (q + i * n)) (h i) (k i))
      ∙ sum_add (suc n) (λ i. pick (v i) (f (q + i * n))) (λ i. pick (w i) (f (q + i * n)))

  -- ---- words that act on a lane f

  pub act_word_add : (u w : ℕ) (f : ℕ → ℕ) (q : ℕ) → act n (bit (u ⊕ w)) f q ≡ act n (bit u) f q ⊕ act n (bit w) f q
  act_word_add u w f q =
      ap (λ (v : ℕ → ℕ). act n v f q) (fun_ext (bit_of_xor u w)) ∙ act_xor (bit u) (bit w) f q (bit_digit u) (bit_digit w)

  pub act_word_zero : (f : ℕ → ℕ) (q : ℕ) → act n (bit 0) f q ≡ 0
  unfolding act pick
  act_word_zero f q = sum_all (suc n) (λ i. ap (λ (b : ℕ). pick b (f (q + i * n))) (bit_zero i)) ∙ sum_none (suc n)

  -- a lane's word acts as the lane
  act_pack : (w f : ℕ → ℕ) (q : ℕ) → ((i : ℕ) → w i < 2) → act n (bit (pack (suc n) w)) f q ≡ act n w f q
  act_pack w f q h = act_ext n (bit (pack (suc n) w)) w f (λ i l. bit_pack (suc n) w i l ∙ mod-eq_of_lt (h i)) q

  shifted : (w k : ℕ) (f : ℕ → ℕ) → Periodic (suc n) f → (q : ℕ) → act n (λ i. lane_of (suc n) w (i + k)) f q ≡ act n (bit w) f (q + k)
  unfolding lane_of turn
  shifted w k f h q = act_turn n k (bit w) f h q

  pub act_word_times : (a b w : ℕ) (f : ℕ → ℕ) → Periodic (suc n) f → (q : ℕ) → act n (bit (times_of (suc n) a b w)) f q ≡ D n a b (act n (bit w) f) q
  unfolding times_of D
  act_word_times a b w f h q =
      act_pack (D n a b (lane_of (suc n) w)) f q (D_lt n 1 a b (lane_of (suc n) w) (lane_of_digit (suc n) w))
      ∙ act_xor (λ i. lane_of (suc n) w (i + a * n)) (λ i. lane_of (suc n) w (i + b * n)) f q (λ i. lane_of_digit (suc n) w (i + a * n)) (λ i. lane_of_digit (suc n) w (i + b * n))
      ∙ ap₂ ◌⊕◌ (shifted w (a * n) f h q) (shifted w (b * n) f h q)

  act_nest : (g : ℕ → ℕ) (w : ℕ) (f : ℕ → ℕ) → Periodic (suc n) f → (q : ℕ) → act n (act n g (lane_of (suc n) w)) f q ≡ act n g (act n (bit w) f) q
  unfolding act
  act_nest g w f h q =
      let l : ℕ → ℕ = lane_of (suc n) w in
      sum_all (suc n) (λ i. pick_sum (suc n) (λ j. pick (g j) (l (i + j * n))) (f (q + i * n)) (λ j. pick_digit (g j) (l (i + j * n)) (lane_of_digit (suc n) w (i + j * n)))
      ∙ sum_all (suc n) (λ j. pick_nest (g j) (l (i + j * n)) (f (q + i * n))))
      ∙ sum_swap (suc n) (suc n) (λ i j. pick (g j) (pick (l (i + j * n)) (f (q + i * n))))
      ∙ sum_all (suc n) (λ j. sum_pick (g j) (suc n) (λ i. pick (l (i + j * n)) (f (q + i * n))) ∙ ap (pick (g j)) (shifted w (j * n) f h q))

  pub act_word_over : (a b w : ℕ) (f : ℕ → ℕ) → Periodic (suc n) f → (q : ℕ) → act n (bit (over_of (suc n) a b w)) f q ≡ act n (quot n a b) (act n (bit w) f) q
  unfolding over_of
  act_word_over a b w f h q =
      act_pack (act n (quot n a b) (lane_of (suc n) w)) f q (act_lt n 1 (quot n a b) (lane_of (suc n) w) (lane_of_digit (suc n) w))
      ∙ act_nest (quot n a b) w f h q

  -- the word of 1 / (x^a + x^b) divides
  pub act_word_inverse : (a b : ℕ) (f : ℕ → ℕ) (q : ℕ) → act n (bit (inverse_of (suc n) a b)) f q ≡ act n (quot n a b) f q
  unfolding inverse_of
  act_word_inverse a b f q = act_pack (quot n a b) f q (quot_digit n a b)

  pub act_word_one : n < 61 → (f : ℕ → ℕ) → Periodic (suc n) f → Even n f → (q : ℕ) → act n (bit (one (suc n))) f q ≡ f q
  unfolding act pick
  act_word_one small f h e q =
      let zero_is : Bool = eqb (bit (one (suc n)) 0) 0 in
      let rest_are : ℕ → Bool = λ i. eqb (bit (one (suc n)) (suc i)) 1 in
      let t = below_at (λ m. eqb (bit (one (suc m)) 0) 0 && below m (λ i. eqb (bit (one (suc m)) (suc i)) 1)) 61 e_bits n small in
      let z : bit (one (suc n)) 0 ≡ 0 = eqb→eq _ _ (and_left zero_is (below n rest_are) t) in
      sum_front n (λ i. pick (bit (one (suc n)) i) (f (q + i * n)))
      ∙ ap₂ ◌⊕◌ (ap (λ (b : ℕ). pick b (f (q + 0 * n))) z)
      (sum_ext n (λ i l.
      let o : bit (one (suc n)) (suc i) ≡ 1 = eqb→eq _ _ (below_at rest_are n (and_right zero_is (below n rest_are) t) i l) in
      ap (λ (b : ℕ). pick b (f (q + suc i * n))) o))
      ∙ zero_⊕ _ ∙ tail n f h e q
