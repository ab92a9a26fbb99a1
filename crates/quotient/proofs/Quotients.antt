-- What adding up the rows, and putting or comparing the rows of a quotient, owe.
-- Assumes nothing.
use Prim.Native.Nat.{ℕ, suc, ◌+◌, ◌-◌, ◌*◌, ◌%◌, ◌≤◌, ◌<◌}
use mathlib.Core.List.{List}
use mathlib.Core.Logic.{◌≢◌}
use mathlib.Core.Path.{◌≡◌, sym, ap, ap₂, subst, ◌∙◌, refl}
use native.Mathlib.Decide.{dec_lt}
use native.Mathlib.Nat.{zero-add, mod-add-mod}
use native.Mathlib.Omega.{arith}
use lib.ListN.{get_or, length, replicate, length-replicate, get_or-replicate}
use Rattle.laws.proofs.Place.{Place, place, before, inside, after}
use Rattle.laws.proofs.Rows.{row_in}
use Rattle.laws.proofs.Sum.{sum_back}
use borrow.Rule.Slice.PartMut.{mid_of, put_mid}
use Rattle.laws.proofs.Mid.{get_or_mid, length_mid, mid_patched}
use Rattle.laws.specs.Patch.{Patched}
use Rattle.laws.specs.Sum.{sum}
use Rattle.laws.specs.Xor.{◌⊕◌}
use Rattle.laws.specs.Part.{row_byte}
use Rattle.quotient.specs.Lanes.{Summed, FinishAsked, Laid, finished, Shows, Stand, RowStands}

-- ---- `total`

pub total_none : (acc : List ℕ) (w : ℕ) → w ≤ 128 → Summed acc (replicate 128 0) 0 w
unfolding sum
total_none acc w h = record { whole = length-replicate {A = ℕ} 128 0; bytes = λ x l. get_or-replicate {A = ℕ} 128 x 0 0 (omega arith) }

module _ (acc sum₁ v : List ℕ) (w t k m : ℕ) (S : Summed acc sum₁ t w) (h : w ≤ 128) (e : k ≡ w) (f : m ≡ w)
    (d : Patched (mid_of 0 k sum₁) v 0 (length (mid_of 0 k sum₁)) (λ x. get_or (mid_of 0 k sum₁) x 0 ⊕ get_or (mid_of (t * w) m acc) x 0)) where
  sum_put : Patched sum₁ (put_mid 0 k sum₁ v) 0 k (λ x. sum (t + 1) (λ q. row_byte acc w q x))
  sum_put =
      let l : length (mid_of 0 k sum₁) ≡ k = length_mid sum₁ 0 k (omega (arith, S.whole)) in
      mid_patched sum₁ 0 k v _ _ (omega (arith, S.whole)) (rw l at d)
      (λ x n.
      let z : suc t ≡ t + 1 = omega arith in
      ap₂ ◌⊕◌ (get_or_mid sum₁ 0 k x n ∙ ap (λ (y : ℕ). get_or sum₁ y 0) (zero-add x) ∙ S.bytes x (omega arith)) (get_or_mid acc (t * w) m x (omega arith))
      ∙ sym (sum_back t (λ q. row_byte acc w q x)) ∙ ap (λ (y : ℕ). sum y (λ q. row_byte acc w q x)) z)

  pub total_more : Summed acc (put_mid 0 k sum₁ v) (t + 1) w
  total_more = record { whole = sum_put.len ∙ S.whole; bytes = λ x n. ap (λ (y : ℕ). get_or (put_mid 0 k sum₁ v) y 0) (sym (zero-add x)) ∙ sum_put.inner x (omega arith) }

-- ---- the place of row t

pub shift_next : (f f' t j p : ℕ) → f' ≡ (f + (p - (p - 1))) % p → f ≡ (t + j) % p → t < p - 1 → f' ≡ (t + 1 + j) % p
shift_next f f' t j p g e h =
    let z : f + (p - (p - 1)) ≡ f + 1 = omega arith in
    let y : t + j + 1 ≡ t + 1 + j = omega arith in
    g ∙ ap (λ (x : ℕ). x % p) z ∙ ap (λ (x : ℕ). (x + 1) % p) e ∙ mod-add-mod (t + j) p 1 ∙ ap (λ (x : ℕ). x % p) y

module _ (s acc : List ℕ) (to p b j w t f : ℕ) (F : FinishAsked s acc to p b j w) (h : t < p - 1) where
  pub rows_room : (s' : List ℕ) → length s' ≡ length s → to + t * b + w ≤ length s'
  rows_room s' l = omega (arith, F.inside, row_in t (p - 1) b h)

-- row f of acc with the sum added is row n of the quotient
row_due : (acc sum₁ : List ℕ) (p w j n f k x : ℕ) → Summed acc sum₁ p w → f ≡ (n + j) % p → x < k → x < w → get_or (mid_of (f * w) k acc) x 0 ⊕ get_or sum₁ x 0 ≡ finished acc p w j n x
unfolding finished
row_due acc sum₁ p w j n f k x S e h l = ap₂ ◌⊕◌ (get_or_mid acc (f * w) k x h ∙ ap (λ (y : ℕ). row_byte acc w y x) e) (S.bytes x l)

-- ---- `finish`

laid_row : (s t u : List ℕ) (to n b w : ℕ) (v : ℕ → ℕ → ℕ) (g : ℕ → ℕ) → w ≤ b → Laid s t to n b w v → Patched t u (to + n * b) w g → ((x : ℕ) → x < w → g x ≡ v n x) → Laid s u to (n + 1) b w v
laid_row s t u to n b w v g k L c e = record {
  len = c.len ∙ L.len;
  rows = record { bytes = λ i x h l. row i x h l (dec_lt i n) };
  rest = λ o h. rest o h (place (to + n * b) w o);
}
  where
    row : (i x : ℕ) → i < n + 1 → x < w → Dec (i < n) → get_or u (to + i * b + x) 0 ≡ v i x
    row i x h l (yes m) = c.below (to + i * b + x) (omega (arith, row_in i n b m)) ∙ L.rows.bytes i x m l
    row i x h l (no m) = let z : i ≡ n = omega arith in rw z (c.inner x l ∙ e x l)

    rest : (o : ℕ) → ((i x : ℕ) → i < n + 1 → x < w → o ≢ to + i * b + x) → Place (to + n * b) w o → get_or u o 0 ≡ get_or s o 0
    rest o h (before l) = c.below o l ∙ L.rest o (λ i x m y. h i x (omega arith) y)
    rest o h (inside i l z) = absurd (h n i (omega arith) l z)
    rest o h (after l) = c.above o l ∙ L.rest o (λ i x m y. h i x (omega arith) y)

pub laid_more : (s t v acc sum₁ : List ℕ) (to p b j w n f k m : ℕ) → FinishAsked s acc to p b j w → Summed acc sum₁ p w → Laid s t to n b w (finished acc p w j) → f ≡ (n + j) % p → n < p - 1
    → k ≡ w → m ≡ w → Patched (mid_of (to + n * b) k t) v 0 (length (mid_of (to + n * b) k t)) (λ x. get_or (mid_of (f * w) m acc) x 0 ⊕ get_or sum₁ x 0)
    → Laid s (put_mid (to + n * b) k t v) to (n + 1) b w (finished acc p w j)
laid_more s t v acc sum₁ to p b j w n f k m F S L e h g c d =
    let i : to + n * b + k ≤ length t = omega (arith, rows_room s acc to p b j w n f F h t L.len) in
    let l : length (mid_of (to + n * b) k t) ≡ k = length_mid t (to + n * b) k i in
    let P : Patched t (put_mid (to + n * b) k t v) (to + n * b) k (finished acc p w j n) =
    mid_patched t (to + n * b) k v _ _ i (rw l at d) (λ x y. row_due acc sum₁ p w j n f m x S e (omega arith) (omega arith)) in
    laid_row s t (put_mid (to + n * b) k t v) to n b w (finished acc p w j) _ F.fits L (subst (λ (y : ℕ). Patched t (put_mid (to + n * b) k t v) (to + n * b) y (finished acc p w j n)) g P) (λ x y. refl)

-- ---- `compare`

pub stand_more : (s acc sum₁ : List ℕ) (bad all all' to p b j w n f k m : ℕ) → FinishAsked s acc to p b j w → Summed acc sum₁ p w → Shows bad all (Stand s to n b w (finished acc p w j))
    → f ≡ (n + j) % p → n < p - 1 → k ≡ w → m ≡ w → Shows all all' (RowStands (mid_of (to + n * b) k s) (mid_of (f * w) m acc) sum₁ (length (mid_of (to + n * b) k s)))
    → Shows bad all' (Stand s to (n + 1) b w (finished acc p w j))
stand_more s acc sum₁ bad all all' to p b j w n f k m F T S e h g c R = record {
  clean = λ q B. R.clean (S.clean q (record { bytes = λ t x k l. B.bytes t x (omega arith) l })) (record { bytes = λ x l. get_or_mid s (to + n * b) k x (omega (arith, whole)) ∙ B.bytes n x (omega arith) (omega (arith, whole)) ∙ sym (same x (omega (arith, whole))) });
  told = λ q. let r = R.told q in let z = S.told r.0 in (z.0, record { bytes = λ t x k l. row t x k l z.1 r.1 (dec_lt t n) });
}
  where
    whole : length (mid_of (to + n * b) k s) ≡ k
    whole = length_mid s (to + n * b) k (omega (arith, rows_room s acc to p b j w n f F h s refl))

    same : (x : ℕ) → x < w → get_or (mid_of (f * w) m acc) x 0 ⊕ get_or sum₁ x 0 ≡ finished acc p w j n x
    same x l = row_due acc sum₁ p w j n f m x T e (omega arith) l

    row : (t x : ℕ) → t < n + 1 → x < w → Stand s to n b w (finished acc p w j) → RowStands (mid_of (to + n * b) k s) (mid_of (f * w) m acc) sum₁ (length (mid_of (to + n * b) k s)) → Dec (t < n)
        → get_or s (to + t * b + x) 0 ≡ finished acc p w j t x
    row t x i l B C (yes y) = B.bytes t x y l
    row t x i l B C (no y) =
        let z : t ≡ n = omega arith in rw z (sym (get_or_mid s (to + n * b) k x (omega arith)) ∙ C.bytes x (omega (arith, whole)) ∙ same x l)
