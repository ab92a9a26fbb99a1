-- Laws of part and put.
-- Assumes nothing.
use Prim.Native.Nat.{ℕ, ◌+◌, ◌-◌, ◌<◌, ◌≤◌}
use mathlib.Core.List.{List, ◌++◌}
use mathlib.Core.Logic.{inl, inr}
use mathlib.Core.Path.{◌≡◌, refl, sym, ap, subst, ◌∙◌}
use native.Mathlib.Omega.{arith}
use lib.ListN.{length, get_or, take, drop, length-append, length-take, length-drop, get_or-append}
use lib.Seq.{get_or-take, get_or-drop, get_or-append-add, ext_get_or}
use Rattle.laws.proofs.Place.{Place, before, inside, after, place}
use Rattle.laws.specs.Part.{part, put, Clear}

module _ (s : List ℕ) (at : ℕ) where
  pub length_part : (n : ℕ) → at + n ≤ length s → length (part s at n) ≡ n
  unfolding part
  length_part n h = simp (length-take, length-drop) (omega arith)

  pub get_or_part : (n i : ℕ) → i < n → get_or (part s at n) i 0 ≡ get_or s (at + i) 0
  unfolding part
  get_or_part n i h = rw (get_or-take, get_or-drop)

module _ (s : List ℕ) (at : ℕ) (v : List ℕ) (fits : at + length v ≤ length s) where
  pub length_put : length (put s at v) ≡ length s
  unfolding put
  length_put = simp (length-append, length-take, length-drop) (omega arith)

  pub get_or_put_before : (o : ℕ) → o < at → get_or (put s at v) o 0 ≡ get_or s o 0
  unfolding put
  get_or_put_before o h =
      let l : o < length (take at s) = simp length-take (omega arith) in
      get_or-append (take at s) (v ++ drop (at + length v) s) 0 o l ∙ get_or-take at s o 0 h

  pub get_or_put_in : (i : ℕ) → i < length v → get_or (put s at v) (at + i) 0 ≡ get_or v i 0
  unfolding put
  get_or_put_in i h =
      let l : length (take at s) ≡ at = simp length-take (omega arith) in
      subst (λ (k : ℕ). get_or (take at s ++ (v ++ drop (at + length v) s)) (k + i) 0 ≡ get_or v i 0) l
      (get_or-append-add (take at s) (v ++ drop (at + length v) s) i 0 ∙ get_or-append v (drop (at + length v) s) 0 i h)

  pub get_or_put_after : (o : ℕ) → at + length v ≤ o → get_or (put s at v) o 0 ≡ get_or s o 0
  unfolding put
  get_or_put_after o h =
      let l : length (take at s) ≡ at = simp length-take (omega arith) in
      let e : o ≡ length (take at s) + (length v + (o - (at + length v))) = omega arith in
      let f : at + length v + (o - (at + length v)) ≡ o = omega arith in
      ap (λ (k : ℕ). get_or (take at s ++ (v ++ drop (at + length v) s)) k 0) e
      ∙ get_or-append-add (take at s) (v ++ drop (at + length v) s) (length v + (o - (at + length v))) 0
      ∙ get_or-append-add v (drop (at + length v) s) (o - (at + length v)) 0
      ∙ get_or-drop (at + length v) s (o - (at + length v)) 0
      ∙ ap (λ (k : ℕ). get_or s k 0) f

-- a list is a part put into another, by its bytes
pub is_put : (t s : List ℕ) (at : ℕ) (v : List ℕ) → at + length v ≤ length s → length t ≡ length s
    → ((o : ℕ) → o < at → get_or t o 0 ≡ get_or s o 0)
    → ((i : ℕ) → i < length v → get_or t (at + i) 0 ≡ get_or v i 0)
    → ((o : ℕ) → at + length v ≤ o → get_or t o 0 ≡ get_or s o 0)
    → t ≡ put s at v
is_put t s at v fits len b i a = ext_get_or 0 t (put s at v) (len ∙ sym (length_put s at v fits)) (λ o lt. go o (place at (length v) o))
  where
    go : (o : ℕ) → Place at (length v) o → get_or t o 0 ≡ get_or (put s at v) o 0
    go o (before h) = b o h ∙ sym (get_or_put_before s at v fits o h)
    go o (inside k h e) = rw e (i k h ∙ sym (get_or_put_in s at v fits k h))
    go o (after h) = a o h ∙ sym (get_or_put_after s at v fits o h)

-- a part by its bytes
pub is_part : (s v : List ℕ) (at n : ℕ) → at + n ≤ length s → length v ≡ n → ((i : ℕ) → i < n → get_or v i 0 ≡ get_or s (at + i) 0) → v ≡ part s at n
is_part s v at n h e f =
    ext_get_or 0 v (part s at n) (e ∙ sym (length_part s at n h)) (λ i lt. let l : i < n = omega arith in f i l ∙ sym (get_or_part s at n i l))

module _ (s : List ℕ) (at : ℕ) (v : List ℕ) (fits : at + length v ≤ length s) where
  pub part_put : part (put s at v) at (length v) ≡ v
  part_put = sym (is_part (put s at v) v at (length v) (rw (length_put s at v fits) fits) refl (λ i h. sym (get_or_put_in s at v fits i h)))

  -- a part that what was put does not touch
  pub part_apart : (a n : ℕ) → a + n ≤ length s → Clear a n at (length v) → part (put s at v) a n ≡ part s a n
  part_apart a n h c = is_part s (part (put s at v) a n) a n h (length_part (put s at v) a n (rw (length_put s at v fits) h)) (λ i l. get_or_part (put s at v) a n i l ∙ stays i l c)
    where
      stays : (i : ℕ) → i < n → Clear a n at (length v) → get_or (put s at v) (a + i) 0 ≡ get_or s (a + i) 0
      stays i l (inl b) = get_or_put_before s at v fits (a + i) (omega arith)
      stays i l (inr b) = get_or_put_after s at v fits (a + i) (omega arith)
