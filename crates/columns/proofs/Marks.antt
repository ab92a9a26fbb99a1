-- The pattern of the columns of a list, by its bits.
-- Assumes nothing.
use Prim.Native.Nat.{ℕ, ◌+◌, ◌%◌, ◌^◌}
use mathlib.Core.Bool.{Bool, true, false, ◌||◌, true≢false}
use mathlib.Core.List.{List, [], ◌∷◌}
use mathlib.Core.Logic.{◌≢◌}
use mathlib.Core.Path.{◌≡◌, refl, sym, ap, ◌∙◌}
use native.Mathlib.Decide.{ℕ_discrete}
use lib.Dec.{eqb}
use borrow.Author.Tests.{eq-eqb, ne_eqb, eqb-true}
use Rattle.laws.proofs.Bit.{bit_zero, pack_ext}
use Rattle.laws.specs.Bit.{bit}
use Rattle.laws.specs.Choose.{choose}
use Rattle.laws.specs.Xor.{◌⊕◌}
use Rattle.stripe.specs.declared.Params.{Params}
use Rattle.columns.specs.Import.{absent}
use Rattle.filling.proofs.Marks.{mark_same, mark_other}
use Rattle.columns.specs.Only.{among, Listed, more, others}

-- ---- a list of columns

abbrev pub Fresh : ℕ → List ℕ → Type 0
Fresh met ns = (m : ℕ) → among m ns ≡ true → bit met m ≡ 0

unfoldable pub marked : ℕ → List ℕ → ℕ
marked met [] = met
marked met (n ∷ ns) = marked (met ⊕ 2 ^ n) ns

pub among_head : (n : ℕ) (ns : List ℕ) → among n (n ∷ ns) ≡ true
unfolding among
among_head n ns = simp (eq-eqb n n refl)

pub among_tail : (m n : ℕ) (ns : List ℕ) → among m ns ≡ true → among m (n ∷ ns) ≡ true
unfolding among
among_tail m n ns h = go (eqb m n)
  where
    go : (b : Bool) → (b || among m ns) ≡ true
    go true = refl
    go false = h

pub among_cases : {P : Type 0} (m n : ℕ) (ns : List ℕ) → among m (n ∷ ns) ≡ true → (m ≡ n → P) → (among m ns ≡ true → P) → P
unfolding among
among_cases {P} m n ns h f g = go (eqb m n) refl h
  where
    go : (b : Bool) → eqb m n ≡ b → (b || among m ns) ≡ true → P
    go true e k = f (eqb-true m n e)
    go false e k = g k

differs : (m n : ℕ) (ns : List ℕ) → among n ns ≡ false → among m ns ≡ true → m ≢ n
differs m n ns a b e = true≢false (sym b ∙ ap (λ (x : ℕ). among x ns) e ∙ a)

pub fresh_head : (met n : ℕ) (ns : List ℕ) → Fresh met (n ∷ ns) → bit met n ≡ 0
fresh_head met n ns f = f n (among_head n ns)

pub fresh_tail : (met n : ℕ) (ns : List ℕ) → among n ns ≡ false → Fresh met (n ∷ ns) → Fresh (met ⊕ 2 ^ n) ns
fresh_tail met n ns a f m h = mark_other met n m (differs m n ns a h) ∙ f m (among_tail m n ns h)

pub bit_marked : (q : Params) (ns : List ℕ) (met m : ℕ) → Listed q ns → Fresh met ns → bit (marked met ns) m ≡ choose (among m ns) 1 (bit met m)
unfolding marked among
bit_marked q [] met m l f = refl
bit_marked q (n ∷ ns) met m (more h a l) f = bit_marked q ns (met ⊕ 2 ^ n) m l (fresh_tail met n ns a f) ∙ go (ℕ_discrete m n)
  where
    go : Dec (m ≡ n) → choose (among m ns) 1 (bit (met ⊕ 2 ^ n) m) ≡ choose (eqb m n || among m ns) 1 (bit met m)
    go (yes e) = rw (e, a, mark_same met n (fresh_head met n ns f), eq-eqb n n refl) refl
    go (no d) = rw (mark_other met n m d, ne_eqb m n d) refl

pub absent_others : (q : Params) (ns : List ℕ) → Listed q ns → absent q (marked 0 ns) ≡ others q ns
unfolding absent others
absent_others q ns l =
    pack_ext (q.k + q.r) _ _ (λ m h. ap (λ (x : ℕ). x % 2) (ap (λ (b : ℕ). choose (eqb b 0) 1 0) (bit_marked q ns 0 m l (λ n g. bit_zero n)) ∙ go m (among m ns)))
  where
    go : (m : ℕ) (b : Bool) → ◌≡◌ {A = ℕ} (choose (eqb (choose b 1 (bit 0 m)) 0) 1 0) (choose b 0 1)
    go m true = refl
    go m false = rw (bit_zero m) refl
