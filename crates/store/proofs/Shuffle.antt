-- Lists whose sublists by key are equal are the same but for their order.
-- Assumes nothing.
use Prim.Native.Nat.{ℕ, ◌≤◌}
use mathlib.Core.Bool.{Bool, true, false, not, ◌&&◌}
use mathlib.Core.List.{List, [], ◌∷◌, ◌++◌, map}
use mathlib.Core.Path.{◌≡◌, refl, sym, ap, subst, ◌∙◌}
use native.Mathlib.Decide.{ℕ_discrete}
use native.Mathlib.Omega.{arith}
use lib.Dec.{eqb}
use lib.ListN.{length}
use Rattle.laws.specs.Choose.{choose}
use Rattle.store.proofs.Lists.{keep_yes, keep_no, shuffled_refl, eqb-true, true_eqb, eqb-false, and_left, and_right, and_true}
use Rattle.store.specs.Lists.{keep, Shuffled, done, next, swap, trans}

pub shuffled_eq : {A : Type 0} {l m : List A} → l ≡ m → Shuffled l m
shuffled_eq {l} e = subst (λ (x : List _). Shuffled l x) e (shuffled_refl l)

pub shuffled_sym : {A : Type 0} {l m : List A} → Shuffled l m → Shuffled m l
shuffled_sym done = done
shuffled_sym (next x d) = next x (shuffled_sym d)
shuffled_sym (swap x y l) = swap y x l
shuffled_sym (trans d e) = trans (shuffled_sym e) (shuffled_sym d)

pub shuffled_map : {A B : Type 0} (f : A → B) {l m : List A} → Shuffled l m → Shuffled (map f l) (map f m)
shuffled_map f done = done
shuffled_map f (next x d) = next (f x) (shuffled_map f d)
shuffled_map f (swap x y l) = swap (f x) (f y) (map f l)
shuffled_map f (trans d e) = trans (shuffled_map f d) (shuffled_map f e)

right_part : {A : Type 0} {l m : List A} (r : List A) → Shuffled l m → Shuffled (l ++ r) (m ++ r)
right_part r done = shuffled_refl r
right_part r (next x d) = next x (right_part r d)
right_part r (swap x y l) = swap x y (l ++ r)
right_part r (trans d e) = trans (right_part r d) (right_part r e)

left_part : {A : Type 0} (r : List A) {l m : List A} → Shuffled l m → Shuffled (r ++ l) (r ++ m)
left_part [] d = d
left_part (x ∷ r) d = next x (left_part r d)

middle : {A : Type 0} (x : A) (l m : List A) → Shuffled (x ∷ (l ++ m)) (l ++ (x ∷ m))
middle x [] m = shuffled_refl (x ∷ m)
middle x (y ∷ l) m = trans (swap x y (l ++ m)) (next y (middle x l m))

-- lists of at most one have one order
pub short : {A : Type 0} {l m : List A} → Shuffled l m → length l ≤ 1 → l ≡ m
short done h = refl
short (next x {l} {m} d) h = ap (λ (k : List _). x ∷ k) (short d (omega arith))
short (swap x y l) h = absurd (omega arith)
short {l} (trans {m = k} d e) h = short d h ∙ short e (subst (λ (z : List _). length z ≤ 1) (short d h) h)

module _ {A : Type 0} (p : A → Bool) where
  abbrev pub others : List A → List A
  others l = keep (λ x. not (p x)) l

  parts : (l : List A) → Shuffled l (keep p l ++ others l)
  unfolding keep
  parts [] = done
  parts (x ∷ l) = go (p x) (parts l)
    where
      go : (b : Bool) → Shuffled l (keep p l ++ others l) → Shuffled (x ∷ l) (choose b (x ∷ keep p l) (keep p l) ++ choose (not b) (x ∷ others l) (others l))
      go true d = next x d
      go false d = trans (next x d) (middle x (keep p l) (others l))

  pub join_parts : (l m : List A) → Shuffled (keep p l) (keep p m) → Shuffled (others l) (others m) → Shuffled l m
  join_parts l m d e = trans (parts l) (trans (trans (right_part (others l) d) (left_part (keep p m) e)) (shuffled_sym (parts m)))

module _ {A : Type 0} (p : A → Bool) (f : A → ℕ) where
  abbrev pub at : ℕ → A → Bool
  at κ x = p x && eqb (f x) κ

  -- a list with its first x of key κ taken out
  record Taken (x : A) (κ : ℕ) (r m : List A) : Type 0 where
    rest : List A
    shuffled : Shuffled (keep p m) (x ∷ keep p rest)
    here : keep (at κ) rest ≡ r
    there : (μ : ℕ) → ¬ (μ ≡ κ) → keep (at μ) rest ≡ keep (at μ) m

  head_is : {x y : A} {l m : List A} → y ∷ l ≡ x ∷ m → y ≡ x
  head_is e = cc

  tail_is : {x y : A} {l m : List A} → y ∷ l ≡ x ∷ m → l ≡ m
  tail_is e = cc

  never : {x : A} {l : List A} → [] ≡ x ∷ l → ⊥
  never e = let z : ◌≡◌ {A = ℕ} 0 1 = cc in omega arith

  taken : (x : A) (κ : ℕ) (r m : List A) → keep (at κ) m ≡ x ∷ r → Taken x κ r m
  unfolding keep
  taken x κ r [] e = absurd (never e)
  taken x κ r (y ∷ m) e = go (at κ y) refl e (taken x κ r m)
    where
      first : at κ y ≡ true → y ∷ keep (at κ) m ≡ x ∷ r → Taken x κ r (y ∷ m)
      first h g =
          record {
            rest = m;
            shuffled = shuffled_eq (keep_yes p y m (and_left (p y) (eqb (f y) κ) h) ∙ ap (λ (z : A). z ∷ keep p m) (head_is g));
            here = tail_is g;
            there = λ μ n. sym (keep_no (at μ) y m (off μ n));
          }
        where
          off : (μ : ℕ) → ¬ (μ ≡ κ) → at μ y ≡ false
          off μ n =
              ap (λ (b : Bool). b && eqb (f y) μ) (and_left (p y) (eqb (f y) κ) h)
              ∙ eqb-false (f y) μ (λ z. n (sym z ∙ true_eqb (f y) κ (and_right (p y) (eqb (f y) κ) h)))

      further : at κ y ≡ false → Taken x κ r m → Taken x κ r (y ∷ m)
      further h k =
          record {
            rest = y ∷ k.rest;
            shuffled = two (p y);
            here = keep_no (at κ) y k.rest h ∙ k.here;
            there = λ μ n. ap (λ (l : List A). choose (at μ y) (y ∷ l) l) (k.there μ n);
          }
        where
          two : (b : Bool) → Shuffled (choose b (y ∷ keep p m) (keep p m)) (x ∷ choose b (y ∷ keep p k.rest) (keep p k.rest))
          two true = trans (next y k.shuffled) (swap y x (keep p k.rest))
          two false = k.shuffled

      go : (b : Bool) → at κ y ≡ b → choose b (y ∷ keep (at κ) m) (keep (at κ) m) ≡ x ∷ r → (keep (at κ) m ≡ x ∷ r → Taken x κ r m) → Taken x κ r (y ∷ m)
      go true h g ih = first h g
      go false h g ih = further h (ih g)

  none_left : (m : List A) → ((κ : ℕ) → [] ≡ keep (at κ) m) → [] ≡ keep p m
  unfolding keep
  none_left [] h = refl
  none_left (y ∷ m) h = go (p y) refl (none_left m)
    where
      go : (b : Bool) → p y ≡ b → (((κ : ℕ) → [] ≡ keep (at κ) m) → [] ≡ keep p m) → [] ≡ choose b (y ∷ keep p m) (keep p m)
      go true e ih = absurd (never (h (f y) ∙ keep_yes (at (f y)) y m (and_true (p y) (eqb (f y) (f y)) e (eqb-true (f y) (f y) refl))))
      go false e ih = ih (λ κ. h κ ∙ keep_no (at κ) y m (ap (λ (b : Bool). b && eqb (f y) κ) e))

  pub keyed_shuffled : (l m : List A) → ((κ : ℕ) → keep (at κ) l ≡ keep (at κ) m) → Shuffled (keep p l) (keep p m)
  unfolding keep
  keyed_shuffled [] m h = shuffled_eq (none_left m h)
  keyed_shuffled (x ∷ l) m h = go (p x) refl (keyed_shuffled l)
    where
      go : (b : Bool) → p x ≡ b → ((n : List A) → ((κ : ℕ) → keep (at κ) l ≡ keep (at κ) n) → Shuffled (keep p l) (keep p n)) → Shuffled (choose b (x ∷ keep p l) (keep p l)) (keep p m)
      go true e ih = trans (next x (ih k.rest same)) (shuffled_sym k.shuffled)
        where
          found : at (f x) x ≡ true
          found = and_true (p x) (eqb (f x) (f x)) e (eqb-true (f x) (f x) refl)

          k : Taken x (f x) (keep (at (f x)) l) m
          k = taken x (f x) (keep (at (f x)) l) m (sym (h (f x)) ∙ keep_yes (at (f x)) x l found)

          same : (κ : ℕ) → keep (at κ) l ≡ keep (at κ) k.rest
          same κ =
              elim (ℕ_discrete κ (f x)) [
                | yes z ↦ subst (λ (κ : ℕ). keep (at κ) l ≡ keep (at κ) k.rest) (sym z) (sym k.here)
                | no z ↦ sym (keep_no (at κ) x l (ap (λ (b : Bool). b && eqb (f x) κ) e ∙ eqb-false (f x) κ (λ w. z (sym w)))) ∙ h κ ∙ sym (k.there κ z)
              ]
      go false e ih = ih m (λ κ. sym (keep_no (at κ) x l (ap (λ (b : Bool). b && eqb (f x) κ) e)) ∙ h κ)

  -- with the rest the same but for its order, so is the whole
  pub same_shuffled : (l m : List A) → ((κ : ℕ) → keep (at κ) l ≡ keep (at κ) m) → Shuffled (others p l) (others p m) → Shuffled l m
  same_shuffled l m h d = join_parts p l m (keyed_shuffled l m h) d
