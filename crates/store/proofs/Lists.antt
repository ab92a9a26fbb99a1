-- Tests as equations of Bool, sublists and permutations.
-- Assumes nothing.
use Prim.Native.Nat.{ℕ, ◌<◌}
use mathlib.Core.Bool.{Bool, true, false, ◌&&◌, true≢false, false≢true}
use mathlib.Core.List.{List, [], ◌∷◌}
use mathlib.Core.Path.{◌≡◌, refl, sym, ap, subst, ◌∙◌}
use lib.Dec.{T, eqb, ltb, eqb→eq, eqb_refl, ltb→lt}
use Rattle.laws.proofs.Choose.{true_T, T_true}
use Rattle.laws.specs.Choose.{choose}
use Rattle.store.specs.Lists.{keep, Shuffled, done, next, swap, trans}

-- ---- tests

pub eqb-true : (m n : ℕ) → m ≡ n → eqb m n ≡ true
eqb-true m n e = T_true (eqb m n) (subst (λ (x : ℕ). T (eqb m x)) e (eqb_refl m))

pub true_eqb : (m n : ℕ) → eqb m n ≡ true → m ≡ n
true_eqb m n e = eqb→eq m n (true_T (eqb m n) e)

pub eqb-false : (m n : ℕ) → ¬ (m ≡ n) → eqb m n ≡ false
eqb-false m n h = go (eqb m n) refl
  where
    go : (b : Bool) → eqb m n ≡ b → eqb m n ≡ false
    go true e = absurd (h (true_eqb m n e))
    go false e = e

pub false_eqb : (m n : ℕ) → eqb m n ≡ false → ¬ (m ≡ n)
false_eqb m n e h = true≢false (sym (eqb-true m n h) ∙ e)

pub true_ltb : (m n : ℕ) → ltb m n ≡ true → m < n
true_ltb m n e = ltb→lt m n (true_T (ltb m n) e)

pub and_left : (a b : Bool) → (a && b) ≡ true → a ≡ true
and_left true b e = refl
and_left false b e = e

pub and_right : (a b : Bool) → (a && b) ≡ true → b ≡ true
and_right true b e = e
and_right false b e = absurd (false≢true e)

pub and_true : (a b : Bool) → a ≡ true → b ≡ true → (a && b) ≡ true
and_true true b e f = f
and_true false b e f = e

-- ---- sublists

pub shuffled_refl : {A : Type 0} (l : List A) → Shuffled l l
shuffled_refl [] = done
shuffled_refl (x ∷ l) = next x (shuffled_refl l)

module _ {A : Type 0} (p : A → Bool) where
  pub keep_yes : (x : A) (l : List A) → p x ≡ true → keep p (x ∷ l) ≡ x ∷ keep p l
  unfolding keep
  keep_yes x l e = ap (λ (b : Bool). choose b (x ∷ keep p l) (keep p l)) e

  pub keep_no : (x : A) (l : List A) → p x ≡ false → keep p (x ∷ l) ≡ keep p l
  unfolding keep
  keep_no x l e = ap (λ (b : Bool). choose b (x ∷ keep p l) (keep p l)) e

  pub keep_shuffled : {l m : List A} → Shuffled l m → Shuffled (keep p l) (keep p m)
  unfolding keep
  keep_shuffled done = done
  keep_shuffled (next x {l} {m} d) = go (p x) (keep_shuffled d)
    where
      go : (b : Bool) → Shuffled (keep p l) (keep p m) → Shuffled (choose b (x ∷ keep p l) (keep p l)) (choose b (x ∷ keep p m) (keep p m))
      go true d = next x d
      go false d = d
  keep_shuffled (swap x y l) = go (p x) (p y)
    where
      go : (b c : Bool) → Shuffled (choose b (x ∷ choose c (y ∷ keep p l) (keep p l)) (choose c (y ∷ keep p l) (keep p l))) (choose c (y ∷ choose b (x ∷ keep p l) (keep p l)) (choose b (x ∷ keep p l) (keep p l)))
      go true true = swap x y (keep p l)
      go true false = next x (shuffled_refl (keep p l))
      go false true = next y (shuffled_refl (keep p l))
      go false false = shuffled_refl (keep p l)
  keep_shuffled (trans d e) = trans (keep_shuffled d) (keep_shuffled e)
