-- Sums by XOR.
-- Assumes nothing.
use Prim.Native.Nat.{ℕ, zero, suc, ◌-◌, ◌<◌}
use mathlib.Core.Path.{◌≡◌, refl, sym, ap, ap₂, ◌∙◌, fun_ext}
use native.Mathlib.Nat.{sub-zero}
use native.Mathlib.Omega.{arith}
use Rattle.laws.proofs.Xor.{⊕_assoc, ⊕_comm, ⊕_self, ⊕_zero, zero_⊕, ⊕_left_comm}
use Rattle.laws.specs.Sum.{pick, sum}
use Rattle.laws.specs.Xor.{◌⊕◌}

pub cancel : (a b : ℕ) → a ⊕ (a ⊕ b) ≡ b
cancel a b = sym (⊕_assoc a a b) ∙ ap (λ (x : ℕ). x ⊕ b) (⊕_self a) ∙ zero_⊕ b

pub swap : (a b c d : ℕ) → (a ⊕ b) ⊕ (c ⊕ d) ≡ (a ⊕ c) ⊕ (b ⊕ d)
swap a b c d = simp (⊕_assoc, ⊕_left_comm)

pub pick_add : (b x y : ℕ) → pick b (x ⊕ y) ≡ pick b x ⊕ pick b y
unfolding pick
pick_add zero x y = sym (⊕_zero 0)
pick_add (suc b) x y = refl

pub pick_zero : (b : ℕ) → pick b 0 ≡ 0
unfolding pick
pick_zero zero = refl
pick_zero (suc b) = refl

pub pick_pick : (b c x : ℕ) → pick b (pick c x) ≡ pick c (pick b x)
unfolding pick
pick_pick zero c x = sym (pick_zero c)
pick_pick (suc b) c x = refl

pub pick_swap : (a b : ℕ) → a < 2 → b < 2 → pick a b ≡ pick b a
unfolding pick
pick_swap zero zero h k = refl
pick_swap zero (suc b) h k = refl
pick_swap (suc a) zero h k = refl
pick_swap (suc zero) (suc zero) h k = refl
pick_swap (suc zero) (suc (suc b)) h k = absurd (omega arith)
pick_swap (suc (suc a)) (suc b) h k = absurd (omega arith)

pub sum_ext : (n : ℕ) {f g : ℕ → ℕ} → ((i : ℕ) → i < n → f i ≡ g i) → sum n f ≡ sum n g
unfolding sum
sum_ext zero h = refl
sum_ext (suc n) h = ap₂ ◌⊕◌ (sum_ext n (λ i k. h i (omega arith))) (h n (omega arith))

pub sum_all : (n : ℕ) {f g : ℕ → ℕ} → ((i : ℕ) → f i ≡ g i) → sum n f ≡ sum n g
sum_all n h = ap (sum n) (fun_ext h)

pub sum_none : (n : ℕ) → sum n (λ i. 0) ≡ 0
unfolding sum
sum_none zero = refl
sum_none (suc n) = ap (λ (x : ℕ). x ⊕ 0) (sum_none n) ∙ ⊕_self 0

pub sum_add : (n : ℕ) (f g : ℕ → ℕ) → sum n (λ i. f i ⊕ g i) ≡ sum n f ⊕ sum n g
unfolding sum
sum_add zero f g = sym (⊕_self 0)
sum_add (suc n) f g = ap (λ (x : ℕ). x ⊕ (f n ⊕ g n)) (sum_add n f g) ∙ swap (sum n f) (sum n g) (f n) (g n)

pub sum_pick : (b n : ℕ) (f : ℕ → ℕ) → sum n (λ i. pick b (f i)) ≡ pick b (sum n f)
unfolding sum
sum_pick b zero f = sym (pick_zero b)
sum_pick b (suc n) f = ap (λ (x : ℕ). x ⊕ pick b (f n)) (sum_pick b n f) ∙ sym (pick_add b (sum n f) (f n))

pub sum_swap : (n m : ℕ) (f : ℕ → ℕ → ℕ) → sum n (λ i. sum m (λ j. f i j)) ≡ sum m (λ j. sum n (λ i. f i j))
unfolding sum
sum_swap zero m f = sym (sum_none m)
sum_swap (suc n) m f =
    ap (λ (x : ℕ). x ⊕ sum m (f n)) (sum_swap n m f)
    ∙ sym (sum_add m (λ j. sum n (λ i. f i j)) (f n))

pub sum_front : (n : ℕ) (f : ℕ → ℕ) → sum (suc n) f ≡ f 0 ⊕ sum n (λ i. f (suc i))
unfolding sum
sum_front zero f = ⊕_comm 0 (f 0)
sum_front (suc n) f = ap (λ (x : ℕ). x ⊕ f (suc n)) (sum_front n f) ∙ ⊕_assoc (f 0) (sum n (λ i. f (suc i))) (f (suc n))

pub sum_back : (n : ℕ) (f : ℕ → ℕ) → sum (suc n) f ≡ sum n f ⊕ f n
unfolding sum
sum_back n f = refl

-- in the other order
pub sum_reverse : (n : ℕ) (f : ℕ → ℕ) → sum (suc n) (λ i. f (n - i)) ≡ sum (suc n) f
unfolding sum
sum_reverse zero f = refl
sum_reverse (suc n) f =
    sum_front (suc n) (λ i. f (suc n - i))
    ∙ ap₂ ◌⊕◌ (ap f (sub-zero (suc n))) (sum_all (suc n) (λ i. ap f (omega arith)) ∙ sum_reverse n f)
    ∙ ⊕_comm (f (suc n)) (sum (suc n) f) ∙ sym (sum_back (suc n) f)

-- ---- a period
