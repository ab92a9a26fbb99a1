-- A parity is that of the lost columns and that of the present ones; rising exponents are distinct.
-- Assumes nothing.
use Prim.Native.Nat.{ℕ, suc, ◌≤◌, ◌<◌}
use mathlib.Core.Bool.{Bool, true, false}
use mathlib.Core.List.{List, [], ◌∷◌}
use mathlib.Core.Path.{◌≡◌, refl, ap, ap₂, ◌∙◌, fun_ext, sym}
use native.Mathlib.Omega.{arith}
use lib.ListN.{length}
use Rattle.laws.proofs.Xor.{⊕_assoc, ⊕_self, zero_⊕, ⊕_left_comm, ⊕_zero}
use Rattle.laws.specs.Xor.{◌⊕◌}
use Rattle.algebra.specs.Cauchy.{Same, Off, Distinct, row}
use Rattle.algebra.specs.Code.{plus, none, encode, All}
use Rattle.algebra.specs.Divide.{over}
use Rattle.algebra.specs.Lane.{D, Apart}
use Rattle.algebra.specs.Recovery.{lost, kept, with, Rising}

pub same_length : {A B : Type 0} (k : List A) (l : List B) → length k ≡ length l → Same k l
same_length [] [] e = tt
same_length [] (b ∷ l) e = absurd (omega arith)
same_length (a ∷ k) [] e = absurd (omega arith)
same_length (a ∷ k) (b ∷ l) e = same_length k l (omega arith)

pub same_lost : {A B : Type 0} (m : List Bool) (k : List A) (l : List B) → Same k l → Same (lost m k) (lost m l)
same_lost [] k l e = tt
same_lost (b ∷ m) [] [] e = tt
same_lost (b ∷ m) [] (c ∷ l) e = absurd e
same_lost (b ∷ m) (a ∷ k) [] e = absurd e
same_lost (true ∷ m) (a ∷ k) (c ∷ l) e = same_lost m k l e
same_lost (false ∷ m) (a ∷ k) (c ∷ l) e = same_lost m k l e

-- ---- rising lists, from lo on and below hi

pub rising_lower : (lo lo' hi : ℕ) (l : List ℕ) → lo ≤ lo' → Rising lo' hi l → Rising lo hi l
rising_lower lo lo' hi [] h r = tt
rising_lower lo lo' hi (x ∷ l) h r = (omega arith, r.1, r.2)

pub rising_lost : (lo hi : ℕ) (m : List Bool) (l : List ℕ) → Rising lo hi l → Rising lo hi (lost m l)
rising_lost lo hi [] l r = tt
rising_lost lo hi (b ∷ m) [] r = tt
rising_lost lo hi (true ∷ m) (x ∷ l) r = (r.0, r.1, rising_lost (suc x) hi m l r.2)
rising_lost lo hi (false ∷ m) (x ∷ l) r = rising_lower lo (suc x) hi (lost m l) (omega arith) (rising_lost (suc x) hi m l r.2)

module _ (n : ℕ) where
  pub rising_off : (a lo hi : ℕ) (l : List ℕ) → a < lo → a < suc n → hi ≤ suc n → Rising lo hi l → Off (Apart (suc n)) a l
  rising_off a lo hi [] h k s r = tt
  rising_off a lo hi (x ∷ l) h k s r = ((k, omega arith, omega arith), rising_off a (suc x) hi l (omega arith) k s r.2)

  pub rising_distinct : (lo hi : ℕ) (l : List ℕ) → hi ≤ suc n → Rising lo hi l → Distinct (Apart (suc n)) l
  rising_distinct lo hi [] s r = tt
  rising_distinct lo hi (x ∷ l) s r = (rising_off x (suc x) hi l (omega arith) (omega arith) s r.2, rising_distinct (suc x) hi l s r.2)

  -- ---- a parity is that of the lost and that of the kept

  pub all_lost : (m : List Bool) (ss : List (ℕ → ℕ)) → All n ss → All n (lost m ss)
  all_lost [] ss g = tt
  all_lost (b ∷ m) [] g = tt
  all_lost (true ∷ m) (s ∷ ss) g = (g.0, all_lost m ss g.1)
  all_lost (false ∷ m) (s ∷ ss) g = all_lost m ss g.1

  abbrev parity : ℕ → List ℕ → List (ℕ → ℕ) → ℕ → ℕ
  parity = row plus none (D n) (over n)

  pub parity_split : (x : ℕ) (m : List Bool) (ys : List ℕ) (ss : List (ℕ → ℕ)) → Same ys ss → (q : ℕ)
      → row plus none (D n) (over n) x ys ss q ≡ row plus none (D n) (over n) x (lost m ys) (lost m ss) q ⊕ row plus none (D n) (over n) x (kept m ys) (kept m ss) q
  parity_split x [] ys ss e q = sym (zero_⊕ (parity x ys ss q))
  parity_split x (b ∷ m) [] [] e q = sym (⊕_self 0)
  parity_split x (b ∷ m) [] (s ∷ ss) e q = absurd e
  parity_split x (b ∷ m) (y ∷ ys) [] e q = absurd e
  parity_split x (true ∷ m) (y ∷ ys) (s ∷ ss) e q =
      ap (λ (k : ℕ). over n x y s q ⊕ k) (parity_split x m ys ss e q)
      ∙ sym (⊕_assoc (over n x y s q) (parity x (lost m ys) (lost m ss) q) (parity x (kept m ys) (kept m ss) q))
  parity_split x (false ∷ m) (y ∷ ys) (s ∷ ss) e q =
      ap (λ (k : ℕ). over n x y s q ⊕ k) (parity_split x m ys ss e q)
      ∙ ⊕_left_comm (over n x y s q) (parity x (lost m ys) (lost m ss) q) (parity x (kept m ys) (kept m ss) q)

  taken : (x : ℕ) (m : List Bool) (ys : List ℕ) (ss : List (ℕ → ℕ)) → Same ys ss → (q : ℕ)
      → parity x ys ss q ⊕ parity x (kept m ys) (kept m ss) q ≡ parity x (lost m ys) (lost m ss) q
  taken x m ys ss e q =
      let a : ℕ = parity x (lost m ys) (lost m ss) q in
      let b : ℕ = parity x (kept m ys) (kept m ss) q in
      ap (λ (k : ℕ). k ⊕ b) (parity_split x m ys ss e q) ∙ ⊕_assoc a b b ∙ ap (λ (k : ℕ). a ⊕ k) (⊕_self b) ∙ ⊕_zero a

  -- the parities freed of the present columns are those of the lost ones
  pub syndromes : (m : List Bool) (xs ys : List ℕ) (ss : List (ℕ → ℕ)) → Same ys ss
      → with plus (encode n xs ys ss) (encode n xs (kept m ys) (kept m ss)) ≡ encode n xs (lost m ys) (lost m ss)
  syndromes m [] ys ss e = refl
  syndromes m (x ∷ xs) ys ss e = ap₂ ◌∷◌ (fun_ext (taken x m ys ss e)) (syndromes m xs ys ss e)
