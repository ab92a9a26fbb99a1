-- Even lanes and the n = p - 1 symbols that decide them; bounds.
-- Assumes nothing.
use Prim.Native.Nat.{ℕ, zero, suc, ◌+◌, ◌*◌, ◌/◌, ◌%◌, ◌^◌, ◌≤◌, ◌<◌}
use mathlib.Core.Path.{◌≡◌, sym, ap, ap₂, ◌∙◌}
use native.Mathlib.Decide.{dec_lt}
use native.Mathlib.Nat.{add-mod_right, mod-eq_of_lt, mod-add-div', mod-lt, zero-lt-suc}
use native.Mathlib.Omega.{arith}
use lib.Pow.{pow_pos}
use borrow.Author.Tests.{lt-ltb, le-ltb}
use Rattle.laws.proofs.Sum.{sum_ext, sum_back}
use Rattle.laws.proofs.Xor.{⊕_assoc, ⊕_self, ⊕_zero, zero_⊕, ⊕_lt}
use Rattle.laws.specs.Sum.{pick, sum}
use Rattle.laws.specs.Xor.{◌⊕◌}
use Rattle.algebra.proofs.Period.{level}
use Rattle.algebra.specs.Column.{lane, coefficient}
use Rattle.algebra.specs.Lane.{Periodic, D, act, Even}

-- ---- bounds: where the coefficients are below 2 ^ k, so are the results

pick_lt : (k b m : ℕ) → m < 2 ^ k → pick b m < 2 ^ k
unfolding pick
pick_lt k zero m h = pow_pos k
pick_lt k (suc b) m h = h

pub sum_lt : (k n : ℕ) (f : ℕ → ℕ) → ((i : ℕ) → i < n → f i < 2 ^ k) → sum n f < 2 ^ k
unfolding sum
sum_lt k zero f h = pow_pos k
sum_lt k (suc n) f h = ⊕_lt k (sum n f) (f n) (sum_lt k n f (λ i l. h i (omega arith))) (h n (omega arith))

module _ (n : ℕ) where
  pub D_lt : (k a b : ℕ) (f : ℕ → ℕ) → ((q : ℕ) → f q < 2 ^ k) → (q : ℕ) → D n a b f q < 2 ^ k
  unfolding D
  D_lt k a b f h q = ⊕_lt k (f (q + a * n)) (f (q + b * n)) (h (q + a * n)) (h (q + b * n))

  pub act_lt : (k : ℕ) (w f : ℕ → ℕ) → ((q : ℕ) → f q < 2 ^ k) → (q : ℕ) → act n w f q < 2 ^ k
  unfolding act
  act_lt k w f h q = sum_lt k (suc n) (λ i. pick (w i) (f (q + i * n))) (λ i l. pick_lt k (w i) (f (q + i * n)) (h (q + i * n)))

  pub act_ext : (v w f : ℕ → ℕ) → ((i : ℕ) → i < suc n → v i ≡ w i) → (q : ℕ) → act n v f q ≡ act n w f q
  unfolding act
  act_ext v w f h q = sum_ext (suc n) (λ i l. ap (λ (b : ℕ). pick b (f (q + i * n))) (h i l))

  pub lane_at : (s : ℕ → ℕ) (i : ℕ) → i < n → lane n s i ≡ s i
  unfolding lane coefficient
  lane_at s i h = let l : i < suc n = omega arith in rw (mod-eq_of_lt l, lt-ltb i n h)

  pub lane_last : (s : ℕ → ℕ) → lane n s n ≡ sum n s
  unfolding lane coefficient
  lane_last s = let l : n < suc n = omega arith in let k : n ≤ n = omega arith in rw (mod-eq_of_lt l, le-ltb n n k)

  pub lane_periodic : (s : ℕ → ℕ) → Periodic (suc n) (lane n s)
  unfolding lane
  lane_periodic s q = ap (coefficient n s) (add-mod_right q (suc n))

  pub lane_even : (s : ℕ → ℕ) → Even n (lane n s)
  lane_even s = sum_back n (lane n s) ∙ ap₂ ◌⊕◌ (sum_ext n (λ i h. lane_at s i h)) (lane_last s) ∙ ⊕_self (sum n s)

  even_last : (f : ℕ → ℕ) → Even n f → f n ≡ sum n f
  even_last f e =
      sym (zero_⊕ (f n)) ∙ ap (λ (x : ℕ). x ⊕ f n) (sym (⊕_self (sum n f))) ∙ ⊕_assoc (sum n f) (sum n f) (f n)
      ∙ ap (λ (x : ℕ). sum n f ⊕ x) (sym (sum_back n f) ∙ e) ∙ ⊕_zero (sum n f)

  -- two even lanes with the same symbols are one
  pub even_ext : (f g : ℕ → ℕ) → Periodic (suc n) f → Periodic (suc n) g → Even n f → Even n g → ((i : ℕ) → i < n → f i ≡ g i) → (q : ℕ) → f q ≡ g q
  even_ext f g hf hg ef eg h q =
      let j : ℕ = q % suc n in
      let m : ℕ = q / suc n in
      let e : j + m * suc n ≡ q + 0 * suc n = mod-add-div' q (suc n) ∙ omega arith in
      level (suc n) f hf 0 m q j (sym e) ∙ place j (mod-lt q (zero-lt-suc n)) ∙ level (suc n) g hg m 0 j q e
    where
      place : (j : ℕ) → j < suc n → f j ≡ g j
      place j l =
          elim (dec_lt j n) [
            | yes k ↦ h j k
            | no k ↦
                let e : j ≡ n = omega arith in
                ap f e ∙ even_last f ef ∙ sum_ext n h ∙ sym (even_last g eg) ∙ ap g (sym e)
          ]
      -- ---- a lane read from a list of its p coefficients
