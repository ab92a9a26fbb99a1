-- Lanes under the products with x^a + x^b and with a word: sums, order, period, even weight.
-- Assumes nothing.
use Prim.Native.Nat.{ℕ, suc, ◌+◌, ◌-◌, ◌*◌, ◌≤◌, ◌%◌, ◌<◌}
use mathlib.Core.Path.{◌≡◌, sym, ap, ap₂, ◌∙◌}
use native.Mathlib.Nat.{mod-eq_of_lt, add-mod_right}
use native.Mathlib.Omega.{arith}
use Rattle.laws.proofs.Sum.{cancel, swap, pick_add, pick_zero, pick_pick, sum_ext, sum_all, sum_none, sum_add, sum_pick, sum_swap, sum_reverse, pick_swap}
use Rattle.laws.proofs.Xor.{⊕_assoc, ⊕_comm, ⊕_self}
use Rattle.laws.specs.Sum.{pick, sum}
use Rattle.laws.specs.Xor.{◌⊕◌}
use Rattle.algebra.proofs.Period.{level, rotate, at_mod}
use Rattle.algebra.specs.Lane.{Periodic, D, act, Even}

module _ (n : ℕ) where
  -- ---- as code has it: a place lower by a, kept from below 0 by p

  pub lower : (f : ℕ → ℕ) → Periodic (suc n) f → (a q : ℕ) → a ≤ suc n → f (q + (suc n - a)) ≡ f (q + a * n)
  lower f h a q k = level (suc n) f h a 1 (q + (suc n - a)) (q + a * n) (omega arith)

  pub D_code : (f : ℕ → ℕ) → Periodic (suc n) f → (a b q : ℕ) → a ≤ suc n → b ≤ suc n → D n a b f q ≡ f (q + (suc n - a)) ⊕ f (q + (suc n - b))
  unfolding D
  D_code f h a b q j k = sym (ap₂ ◌⊕◌ (lower f h a q j) (lower f h b q k))

  pub act_code : (w f : ℕ → ℕ) → Periodic (suc n) f → (q : ℕ) → act n w f q ≡ sum (suc n) (λ i. pick (w i) (f (q + (suc n - i))))
  unfolding act
  act_code w f h q = sum_ext (suc n) (λ i k. ap (pick (w i)) (sym (lower f h i q (omega arith))))

  -- ---- D

  pub D_add : (a b : ℕ) (f g : ℕ → ℕ) (q : ℕ) → D n a b (λ r. f r ⊕ g r) q ≡ D n a b f q ⊕ D n a b g q
  unfolding D
  D_add a b f g q = swap (f (q + a * n)) (g (q + a * n)) (f (q + b * n)) (g (q + b * n))

  pub D_periodic : (a b : ℕ) (f : ℕ → ℕ) → Periodic (suc n) f → Periodic (suc n) (D n a b f)
  unfolding D
  D_periodic a b f h q = ap₂ ◌⊕◌ (ap f (omega arith) ∙ h (q + a * n)) (ap f (omega arith) ∙ h (q + b * n))

  pub D_even : (a b : ℕ) (f : ℕ → ℕ) → Periodic (suc n) f → Even n (D n a b f)
  unfolding D
  D_even a b f h =
      sum_add (suc n) (λ q. f (q + a * n)) (λ q. f (q + b * n))
      ∙ ap₂ ◌⊕◌ (rotate (suc n) f h (a * n)) (rotate (suc n) f h (b * n)) ∙ ⊕_self (sum (suc n) f)

  pub D_sym : (a b : ℕ) (f : ℕ → ℕ) (q : ℕ) → D n a b f q ≡ D n b a f q
  unfolding D
  D_sym a b f q = ⊕_comm (f (q + a * n)) (f (q + b * n))

  pub D_tri : (a b c : ℕ) (f : ℕ → ℕ) (q : ℕ) → D n a c f q ≡ D n a b f q ⊕ D n b c f q
  unfolding D
  D_tri a b c f q =
      sym (⊕_assoc (f (q + a * n)) (f (q + b * n)) (f (q + b * n) ⊕ f (q + c * n))
      ∙ ap (λ (x : ℕ). f (q + a * n) ⊕ x) (cancel (f (q + b * n)) (f (q + c * n))))

  pub D_D : (a b c d : ℕ) (f : ℕ → ℕ) (q : ℕ) → D n a b (D n c d f) q ≡ D n c d (D n a b f) q
  unfolding D
  D_D a b c d f q =
      swap (f (q + a * n + c * n)) (f (q + a * n + d * n)) (f (q + b * n + c * n)) (f (q + b * n + d * n))
      ∙ ap₂ ◌⊕◌ (ap₂ ◌⊕◌ (ap f (omega arith)) (ap f (omega arith))) (ap₂ ◌⊕◌ (ap f (omega arith)) (ap f (omega arith)))

  -- ---- act

  pub act_add : (w f g : ℕ → ℕ) (q : ℕ) → act n w (λ r. f r ⊕ g r) q ≡ act n w f q ⊕ act n w g q
  unfolding act
  act_add w f g q =
      sum_all (suc n) (λ i. pick_add (w i) (f (q + i * n)) (g (q + i * n)))
      ∙ sum_add (suc n) (λ i. pick (w i) (f (q + i * n))) (λ i. pick (w i) (g (q + i * n)))

  pub act_periodic : (w f : ℕ → ℕ) → Periodic (suc n) f → Periodic (suc n) (act n w f)
  unfolding act
  act_periodic w f h q = sum_all (suc n) (λ i. ap (pick (w i)) (ap f (omega arith) ∙ h (q + i * n)))

  pub act_even : (w f : ℕ → ℕ) → Periodic (suc n) f → Even n f → Even n (act n w f)
  unfolding act
  act_even w f h e =
      sum_swap (suc n) (suc n) (λ q i. pick (w i) (f (q + i * n)))
      ∙ sum_all (suc n) (λ i. sum_pick (w i) (suc n) (λ q. f (q + i * n)) ∙ ap (pick (w i)) (rotate (suc n) f h (i * n) ∙ e) ∙ pick_zero (w i))
      ∙ sum_none (suc n)

  pub act_shift : (w f : ℕ → ℕ) (k q : ℕ) → act n w (λ r. f (r + k)) q ≡ act n w f (q + k)
  unfolding act
  act_shift w f k q = sum_all (suc n) (λ i. ap (λ (r : ℕ). pick (w i) (f r)) (omega arith))

  pub D_act : (a b : ℕ) (w f : ℕ → ℕ) (q : ℕ) → D n a b (act n w f) q ≡ act n w (D n a b f) q
  unfolding D
  D_act a b w f q =
      sym (act_add w (λ r. f (r + a * n)) (λ r. f (r + b * n)) q
      ∙ ap₂ ◌⊕◌ (act_shift w f (a * n) q) (act_shift w f (b * n) q))

  pub act_act : (v w f : ℕ → ℕ) (q : ℕ) → act n v (act n w f) q ≡ act n w (act n v f) q
  unfolding act
  act_act v w f q =
      sum_all (suc n) (λ i. sym (sum_pick (v i) (suc n) (λ j. pick (w j) (f (q + i * n + j * n)))))
      ∙ sum_swap (suc n) (suc n) (λ i j. pick (v i) (pick (w j) (f (q + i * n + j * n))))
      ∙ sum_all (suc n) (λ j. sum_all (suc n) (λ i. pick_pick (v i) (w j) (f (q + i * n + j * n))
      ∙ ap (λ (r : ℕ). pick (w j) (pick (v i) (f r))) (omega arith))
      ∙ sum_pick (w j) (suc n) (λ i. pick (v i) (f (q + j * n + i * n))))

  -- the product, by the places of the lane
  pub by_place : (w f : ℕ → ℕ) → Periodic (suc n) f → (q : ℕ) → act n w f q ≡ sum (suc n) (λ t. pick (w ((q + (suc n - t)) % suc n)) (f t))
  unfolding act
  by_place w f h q =
      let G : ℕ → ℕ = λ j. pick (w (j % suc n)) (f (q + j * n)) in
      let H : ℕ → ℕ = λ j. G (j + (q + 1)) in
      sum_ext (suc n) (λ j l. ap (λ (x : ℕ). pick (w x) (f (q + j * n))) (sym (mod-eq_of_lt l)))
      ∙ sym (rotate (suc n) G (λ j. ap₂ (λ (x y : ℕ). pick (w x) y) (add-mod_right j (suc n)) (level (suc n) f h 0 n (q + (j + suc n) * n) (q + j * n) (omega arith))) (q + 1))
      ∙ sym (sum_reverse n H)
      ∙ sum_ext (suc n) (λ t l.
      let e : n - t + (q + 1) ≡ q + (suc n - t) = omega arith in
      ap G e
      ∙ ap (pick (w ((q + (suc n - t)) % suc n))) (level (suc n) f h 1 (q + (suc n - t)) (q + (q + (suc n - t)) * n) t (omega arith)))

  -- the product of two lanes of bits, in either order
  pub act_swap : (f g : ℕ → ℕ) → Periodic (suc n) f → Periodic (suc n) g → ((q : ℕ) → f q < 2) → ((q : ℕ) → g q < 2) → (q : ℕ) → act n f g q ≡ act n g f q
  act_swap f g hf hg df dg q =
      by_place f g hg q
      ∙ sum_all (suc n) (λ t. pick_swap (f ((q + (suc n - t)) % suc n)) (g t) (df _) (dg t) ∙ ap (pick (g t)) (at_mod n f hf (q + (suc n - t))))
      ∙ sym (act_code g f hf q)
