-- What a choice and a test say.
-- Assumes nothing.
use Prim.Native.Nat.{ℕ, zero, suc, ◌<◌}
use mathlib.Core.Bool.{Bool, true, false, ◌&&◌}
use mathlib.Core.Path.{◌≡◌, refl, subst, sym}
use native.Mathlib.Decide.{ℕ_discrete}
use native.Mathlib.Nat.{not-suc-le-zero}
use native.Mathlib.Omega.{arith}
use lib.Dec.{T}
use Rattle.laws.specs.Choose.{implies, below, choose}

-- which way a choice went, by what it cannot be
pub choose_yes : {A : Type 0} (t : Bool) (a b w : A) → (w ≡ b → ⊥) → w ≡ choose t a b → (t ≡ true) × (w ≡ a)
choose_yes true a b w n e = (refl, e)
choose_yes false a b w n e = absurd (n e)

pub choose_no : {A : Type 0} (t : Bool) (a b w : A) → (w ≡ a → ⊥) → w ≡ choose t a b → (t ≡ false) × (w ≡ b)
choose_no true a b w n e = absurd (n e)
choose_no false a b w n e = (refl, e)

-- ---- tests

pub true_T : (b : Bool) → b ≡ true → T b
true_T b e = subst T (sym e) tt

pub T_true : (b : Bool) → T b → b ≡ true
T_true true t = refl
T_true false t = absurd t

pub and_left : (a b : Bool) → T (a && b) → T a
and_left true b t = tt
and_left false b t = t

pub and_right : (a b : Bool) → T (a && b) → T b
and_right true b t = t
and_right false b t = absurd t

pub both_T : (a b : Bool) → T a → T b → T (a && b)
both_T true b s t = t
both_T false b s t = s

pub implied : (a b : Bool) → T (implies a b) → T a → T b
unfolding implies
implied true b t u = t
implied false b t u = absurd u

pub below_at : (f : ℕ → Bool) (n : ℕ) → T (below n f) → (i : ℕ) → i < n → T (f i)
unfolding below
below_at f zero t i h = absurd (not-suc-le-zero h)
below_at f (suc n) t i h =
    elim (ℕ_discrete i n) [
      | yes e ↦ subst (λ (k : ℕ). T (f k)) (sym e) (and_left (f n) (below n f) t)
      | no e ↦ below_at f n (and_right (f n) (below n f) t) i (omega arith)
    ]

pub at_below : (f : ℕ → Bool) (n : ℕ) → ((i : ℕ) → i < n → T (f i)) → T (below n f)
unfolding below
at_below f zero h = tt
at_below f (suc n) h = both_T (f n) (below n f) (h n (omega arith)) (at_below f n (λ i l. h i (omega arith)))
