-- Tests over every number below a bound.
-- Assumes nothing.
use Prim.Native.Nat.{ℕ, ◌<◌}
use mathlib.Core.Bool.{Bool, true}
use mathlib.Core.Path.{◌≡◌, sym}
use Rattle.laws.proofs.Choose.{T_true, true_T, at_below, below_at}
use Rattle.laws.specs.Choose.{below}

pub all_below : (n : ℕ) (f : ℕ → Bool) → ((i : ℕ) → i < n → f i ≡ true) → true ≡ below n f
all_below n f h = sym (T_true (below n f) (at_below f n (λ i l. true_T (f i) (h i l))))

pub below_all : (n : ℕ) (f : ℕ → Bool) (i : ℕ) → true ≡ below n f → i < n → f i ≡ true
below_all n f i e l = T_true (f i) (below_at f n (true_T (below n f) (sym e)) i l)
