-- Functions of a period.
-- Assumes nothing.
use Prim.Native.Nat.{ℕ, zero, suc, ◌+◌, ◌*◌, ◌%◌, ◌/◌}
use mathlib.Core.Path.{◌≡◌, sym, ap, ◌∙◌}
use native.Mathlib.Nat.{add-zero, mod-add-div'}
use native.Mathlib.Omega.{arith}
use Rattle.laws.proofs.Sum.{cancel, sum_all, sum_front, sum_back}
use Rattle.laws.proofs.Xor.{⊕_comm}
use Rattle.laws.specs.Sum.{sum}
use Rattle.laws.specs.Xor.{◌⊕◌}
use Rattle.algebra.specs.Lane.{Periodic}

pub periods : (p : ℕ) (f : ℕ → ℕ) → Periodic p f → (k q : ℕ) → f (q + k * p) ≡ f q
periods p f h zero q = ap f (omega arith)
periods p f h (suc k) q = ap f (omega arith) ∙ h (q + k * p) ∙ periods p f h k q

-- the same place in two periods
pub level : (p : ℕ) (f : ℕ → ℕ) → Periodic p f → (j k a b : ℕ) → a + j * p ≡ b + k * p → f a ≡ f b
level p f h j k a b e = sym (periods p f h j a) ∙ ap f e ∙ periods p f h k b

rotate_one : (p : ℕ) (f : ℕ → ℕ) → Periodic p f → sum p (λ q. f (suc q)) ≡ sum p f
rotate_one p f h =
    sym (cancel (f 0) (sum p (λ q. f (suc q))))
    ∙ ap (λ (x : ℕ). f 0 ⊕ x) (sym (sum_front p f) ∙ sum_back p f ∙ ap (λ (x : ℕ). sum p f ⊕ x) (ap f (omega arith) ∙ h 0) ∙ ⊕_comm (sum p f) (f 0))
    ∙ cancel (f 0) (sum p f)

pub rotate : (p : ℕ) (f : ℕ → ℕ) → Periodic p f → (n : ℕ) → sum p (λ q. f (q + n)) ≡ sum p f
rotate p f h zero = sum_all p (λ q. ap f (add-zero q))
rotate p f h (suc n) =
    sum_all p (λ q. ap f (omega arith))
    ∙ rotate_one p (λ q. f (q + n)) (λ q. ap f (omega arith) ∙ h (q + n))
    ∙ rotate p f h n

pub at_mod : (n : ℕ) (f : ℕ → ℕ) → Periodic (suc n) f → (q : ℕ) → f (q % suc n) ≡ f q
at_mod n f h q = level (suc n) f h (q / suc n) 0 (q % suc n) q (mod-add-div' q (suc n) ∙ omega arith)
