-- Laws of patches: a loop's start, its turn and its end; two patches; a patch as an equation.
-- Assumes nothing.
use Prim.Native.Nat.{ℕ, ◌+◌, ◌-◌, ◌<◌, ◌≤◌}
use mathlib.Core.List.{List}
use mathlib.Core.Path.{◌≡◌, refl, sym, ap, ◌∙◌}
use native.Mathlib.Nat.{zero-add}
use native.Mathlib.Omega.{arith}
use lib.ListN.{length, get_or, set, length-set}
use lib.Seq.{get_or-set_same, get_or-set_other, ext_get_or}
use borrow.Author.Count.{below_none, below_more}
use Rattle.laws.proofs.Part.{is_put, length_put, get_or_put_before, get_or_put_in, get_or_put_after}
use Rattle.laws.proofs.Place.{Place, before, inside, after, place}
use Rattle.laws.proofs.Tab.{length_tab, get_or_tab}
use Rattle.laws.specs.Part.{tab}
use Rattle.laws.specs.Patch.{Patched, patch}

module _ (s t : List ℕ) (at n : ℕ) (f : ℕ → ℕ) (fits : at + n ≤ length s) where
  -- the relation says which list it is
  pub is_patch : Patched s t at n f → t ≡ patch s at n f
  unfolding patch
  is_patch d =
      let l = length_tab n f in
      is_put t s at (tab n f) (omega arith) d.len d.below
      (λ i h. let g : i < n = omega arith in d.inner i g ∙ sym (get_or_tab n f i g))
      (λ o h. d.above o (omega arith))

  pub patched : t ≡ patch s at n f → Patched s t at n f
  unfolding patch
  patched e =
      let l = length_tab n f in
      rw e (record {
        len = length_put s at (tab n f) (omega arith);
        below = get_or_put_before s at (tab n f) (omega arith);
        inner = λ i h. get_or_put_in s at (tab n f) (omega arith) i (omega arith) ∙ get_or_tab n f i h;
        above = λ o h. get_or_put_after s at (tab n f) (omega arith) o (omega arith);
      })

-- a loop of stores: none, one more
pub patch_none : (s : List ℕ) (at : ℕ) (f : ℕ → ℕ) → Patched s s at 0 f
patch_none s at f = record { len = refl; below = λ o h. refl; inner = below_none _; above = λ o h. refl }

pub patch_more : (s t : List ℕ) (at n : ℕ) (f : ℕ → ℕ) (v : ℕ) → Patched s t at n f → at + n < length s → v ≡ f n → Patched s (set t (at + n) v) at (n + 1) f
patch_more s t at n f v d h e = record {
  len = simp length-set d.len;
  below = λ o l. get_or-set_other t (at + n) o v 0 (omega arith) ∙ d.below o l;
  inner = below_more (λ k. get_or (set t (at + n) v) (at + k) 0 ≡ f k) n
      (λ k l. get_or-set_other t (at + n) (at + k) v 0 (omega arith) ∙ d.inner k l)
      (get_or-set_same t (at + n) v 0 (omega arith) ∙ e);
  above = λ o l. get_or-set_other t (at + n) o v 0 (omega arith) ∙ d.above o (omega arith);
}

-- one patch, and then another just above it, which goes by what the first left there
pub patch_join : (s t u : List ℕ) (at n m : ℕ) (f g : ℕ → ℕ) → Patched s t at n f → Patched t u (at + n) m g → ((i : ℕ) → i < m → g i ≡ f (n + i)) → Patched s u at (n + m) f
patch_join s t u at n m f g d e same = record {
  len = e.len ∙ d.len;
  below = λ o l. e.below o (omega arith) ∙ d.below o l;
  inner = λ i l. go i l (place 0 n i);
  above = λ o l. e.above o (omega arith) ∙ d.above o (omega arith);
}
  where
    go : (i : ℕ) → i < n + m → Place 0 n i → get_or u (at + i) 0 ≡ f i
    go i l (before h) = absurd (omega arith)
    go i l (inside k h q) = e.below (at + i) (omega arith) ∙ d.inner i (omega arith)
    go i l (after h) =
        let j : ℕ = i - n in
        let p : at + i ≡ at + n + j = omega arith in
        let r : n + j ≡ i = omega arith in
        ap (λ (k : ℕ). get_or u k 0) p ∙ e.inner j (omega arith) ∙ same j (omega arith) ∙ ap f r

-- nothing changed
pub patch_same : (s : List ℕ) (at n : ℕ) (f : ℕ → ℕ) → ((i : ℕ) → i < n → get_or s (at + i) 0 ≡ f i) → Patched s s at n f
patch_same s at n f h = record { len = refl; below = λ o l. refl; inner = h; above = λ o l. refl }

-- the same bytes, said in another way
pub patch_by : (s t : List ℕ) (at n : ℕ) (f g : ℕ → ℕ) → Patched s t at n f → ((i : ℕ) → i < n → f i ≡ g i) → Patched s t at n g
patch_by s t at n f g d h = record { len = d.len; below = d.below; inner = λ i l. d.inner i l ∙ h i l; above = d.above }

-- one patch over another
pub patch_over : (s t u : List ℕ) (at n : ℕ) (f g : ℕ → ℕ) → Patched s t at n f → Patched t u at n g → Patched s u at n g
patch_over s t u at n f g d e = record { len = e.len ∙ d.len; below = λ o h. e.below o h ∙ d.below o h; inner = e.inner; above = λ o h. e.above o h ∙ d.above o h }

-- from the front of a list
pub patch_front : (s t : List ℕ) (n : ℕ) (f : ℕ → ℕ) (v : ℕ) → Patched s t 0 n f → n < length s → v ≡ f n → Patched s (set t n v) 0 (n + 1) f
patch_front s t n f v d h e = rw zero-add at (patch_more s t 0 n f v d (rw zero-add h) e)

pub patch_all : (s t u : List ℕ) (f : ℕ → ℕ) → Patched s t 0 (length s) f → length u ≡ length s → ((i : ℕ) → i < length s → f i ≡ get_or u i 0) → t ≡ u
patch_all s t u f d l h =
    ext_get_or 0 t u (d.len ∙ sym l) (λ i g. let k : i < length s = omega (arith, d.len) in (rw zero-add at (d.inner i k)) ∙ h i k)

-- a loop's end: the count that was reached is the bound
pub patch_end : (s t : List ℕ) (at i n : ℕ) (f : ℕ → ℕ) → Patched s t at i f → i ≤ n → n ≤ i → Patched s t at n f
patch_end s t at i n f d h g = let e : i ≡ n = omega arith in rw e at d
