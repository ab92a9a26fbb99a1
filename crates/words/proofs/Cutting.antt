-- Laws of a line's words: they are what std's `split` at the mark yields.
-- Assumes nothing.
use Rattle.std.proofs.Common.{◌≡◌, ℕ, ◌≤◌, Bool, true, false, cond, List, [], ◌∷◌, Bor, length, refl, subst, ap, arith}
use Rattle.std.proofs.Math.Dec.{eqb}
use Rattle.std.proofs.lemmas.Iterator.{YieldsList}
use Rattle.std.proofs.lemmas.Iterator.Splits.{YieldsList-from_slice_split}
use Rattle.std.proofs.lemmas.List.Splits.{length-slice_split}
use Rattle.std.specs.Fn.{CalledAt}
use Rattle.std.specs.List.{slice_split, onto_first}
use Rattle.std.specs.Slice.Iter.{split_rest, split_done, split_callee, split_steps}
use denote.Param.Members.{Mut}
use Rattle.laws.specs.Choose.{choose}
use Rattle.words.specs.Words.{parts, before_first}

parts_split : (m : ℕ) (s : List ℕ) → slice_split (λ c. eqb c m) s ≡ parts m s
unfolding parts before_first
parts_split m [] = refl
parts_split m (c ∷ s) = rw (parts_split m s) (go (eqb c m) (parts m s))
  where
    go : (t : Bool) (ws : List (List ℕ)) → cond t ([] ∷ ws) (onto_first c ws) ≡ choose t ([] ∷ ws) (before_first c ws)
    go true ws = refl
    go false [] = refl
    go false (w ∷ ws) = refl

pub parts_some : (m : ℕ) (s : List ℕ) → 1 ≤ length (parts m s)
parts_some m s = omega (arith, ap length (parts_split m s), length-slice_split (λ c. eqb c m) s)

-- the first three facts are the call's clauses `rest`, `done` and `closure`; the last is what the closure tests
pub parts_yielded : {F : Type 0} {s : _} (g : Mut F (Bor ℕ × Unit {0}) Bool) {f : F} (m : ℕ) (xs : List ℕ) → split_rest s ≡ xs → split_done s ≡ false → split_callee s ≡ f
    → ((x : ℕ) (b : Bool) (q : F) → CalledAt g f x b q → (q ≡ f) × (b ≡ eqb x m)) → YieldsList (split_steps g) (λ x. x.now) s (parts m xs)
parts_yielded {s = s} g m xs rest done closure tests =
    subst (λ (ws : List (List ℕ)). YieldsList (split_steps g) (λ x. x.now) s ws) (parts_split m xs) (YieldsList-from_slice_split g (λ c. eqb c m) xs rest done closure tests)
