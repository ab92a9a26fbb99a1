-- What the functions on strips owe, over plain numbers and lists.
-- Assumes nothing.
use Prim.Native.Nat.{ℕ, zero, suc, ◌+◌, ◌-◌, ◌*◌, ◌/◌, ◌%◌, ◌^◌, ◌<◌, ◌≤◌}
use mathlib.Core.List.{List}
use mathlib.Core.Logic.{◌≢◌}
use mathlib.Core.Path.{◌≡◌, refl, sym, ap, ap₂, subst, ◌∙◌}
use native.Mathlib.Nat.{mod-eq_of_lt, mod-lt, zero-add, add_comm, mul-le-mul}
use native.Mathlib.Omega.{arith}
use lib.Bits.{bit_xor}
use lib.ListN.{length, get_or, drop, drop_of_length-le}
use lib.Pow.{pow_mono}
use lib.Seq.{drop-cons}
use Rattle.laws.proofs.Bit.{pack_lt, bit_digit}
use borrow.Rule.Slice.PartMut.{mid_of}
use Rattle.laws.proofs.Mid.{get_or_mid}
use Rattle.laws.proofs.Patch.{patch_over, patch_by, patch_same}
use Rattle.laws.proofs.Xor.{⊕_assoc, ⊕_zero, ⊕_lt}
use Rattle.laws.specs.Bit.{bit, pack}
use Rattle.laws.specs.Patch.{Patched}
use Rattle.laws.specs.Sum.{pick, sum}
use Rattle.laws.specs.Xor.{◌⊕◌}
use Rattle.algebra.specs.Word.{pred}
use Rattle.engine.specs.Mask.{takes_of, mask_of}
use Rattle.engine.specs.Strips.{gathered, taken, Rows, Columns, onto}

-- ---- the mask

pub bit_is : (w i : ℕ) → w / 2 ^ i % 2 ≡ bit w i
unfolding bit
bit_is w i = refl

pub place_lt : (p q x : ℕ) → q < p → p ≤ 61 → x % p < 64
place_lt p q x h k = let l : x % p < p = mod-lt x (omega arith) in omega arith

pub takes_is : (p w q t x y : ℕ) → x ≡ bit w ((q + (p - t)) % p) → y ≡ bit w ((q + 1) % p) → bit_xor x y ≡ takes_of p w q t
unfolding takes_of ◌⊕◌
takes_is p w q t x y e f = ap₂ bit_xor e f

pub takes_lt : (p w q t : ℕ) → takes_of p w q t < 2
unfolding takes_of
takes_lt p w q t = ⊕_lt 1 (bit w ((q + (p - t)) % p)) (bit w ((q + 1) % p)) (bit_digit w _) (bit_digit w _)

pub mask_none : (p w q : ℕ) → 0 ≡ pack 0 (takes_of p w q)
unfolding pack
mask_none p w q = refl

module _ (p w q t m x : ℕ) (hp : p ≤ 61) (ht : t < p - 1) (e : m ≡ pack t (takes_of p w q)) (f : x ≡ takes_of p w q t) where
  shifted : x * 2 ^ t % 2 ^ 64 ≡ takes_of p w q t * 2 ^ t
  shifted =
      let k : t ≤ 61 = omega arith in
      let z : takes_of p w q t * 2 ^ t ≤ 1 * 2 ^ t = mul-le-mul {n₁ = takes_of p w q t} {m₁ = 2 ^ t} {n₂ = 1} {m₂ = 2 ^ t} (omega (arith, takes_lt p w q t)) (omega arith) in
      let g : 2 ^ t ≤ 2 ^ 61 = pow_mono k in
      let l : takes_of p w q t * 2 ^ t < 2 ^ 64 = omega arith in
      ap (λ (y : ℕ). y * 2 ^ t % 2 ^ 64) f ∙ mod-eq_of_lt l

  pub mask_more : m + x * 2 ^ t % 2 ^ 64 ≡ pack (t + 1) (takes_of p w q)
  unfolding pack
  mask_more =
      let z : t + 1 ≡ suc t = omega arith in
      ap₂ (λ (a b : ℕ). a + b) e shifted ∙ add_comm (pack t (takes_of p w q)) (takes_of p w q t * 2 ^ t)
      ∙ ap (λ (b : ℕ). b * 2 ^ t + pack t (takes_of p w q)) (sym (mod-eq_of_lt (takes_lt p w q t)))
      ∙ ap (λ (j : ℕ). pack j (takes_of p w q)) (sym z)

  pub mask_fits : m + x * 2 ^ t % 2 ^ 64 < 2 ^ 64
  mask_fits =
      let k : t + 1 ≤ 61 = omega arith in
      let g : 2 ^ (t + 1) ≤ 2 ^ 61 = pow_mono k in
      omega (arith, mask_more, pack_lt (t + 1) (takes_of p w q))

pred_is : (p : ℕ) → p - 1 ≡ pred p
pred_is zero = omega arith
pred_is (suc n) = omega arith

pub mask_end : (p w q t m : ℕ) → m ≡ pack t (takes_of p w q) → t ≤ p - 1 → p - 1 ≤ t → m ≡ mask_of p w q
unfolding mask_of
mask_end p w q t m e h k = let z : t ≡ p - 1 = omega arith in e ∙ ap (λ (j : ℕ). pack j (takes_of p w q)) (z ∙ pred_is p)

-- ---- the rows of a mask into one strip

pub gather_none : (src s : List ℕ) (at mask : ℕ) → Patched s s 0 (length s) (onto s (gathered src at (length s) mask 0))
unfolding onto gathered sum
gather_none src s at mask = patch_same s 0 (length s) _ (λ i l. ap (λ (j : ℕ). get_or s j 0) (zero-add i) ∙ sym (⊕_zero (get_or s i 0)))

-- row k added, or left out
module _ (src s t : List ℕ) (at mask k : ℕ) (d : Patched s t 0 (length s) (onto s (gathered src at (length s) mask k))) where
  pub gather_more : (u v : List ℕ) (x n : ℕ) → x ≡ bit mask k → x ≡ 1 → n ≡ length s
      → Patched t u 0 (length t) (λ i. get_or t i 0 ⊕ get_or (mid_of (at + k * length s) n src) i 0) → v ≡ u → Patched s v 0 (length s) (onto s (gathered src at (length s) mask (k + 1)))
  unfolding onto gathered sum pick
  gather_more u v x n f e m a c =
      let z : k + 1 ≡ suc k = omega arith in
      let b : ℕ = length s in
      let A : Patched t u 0 b (λ i. get_or t i 0 ⊕ get_or (mid_of (at + k * b) n src) i 0) = rw d.len at a in
      rw c (patch_by s u 0 b _ (onto s (gathered src at b mask (k + 1))) (patch_over s t u 0 b _ _ d A)
      (λ i l.
      let y : ℕ = get_or src (at + k * b + i) 0 in
      ap₂ ◌⊕◌ (ap (λ (o : ℕ). get_or t o 0) (sym (zero-add i)) ∙ d.inner i l) (get_or_mid src (at + k * b) n i (omega arith))
      ∙ ⊕_assoc (get_or s i 0) (gathered src at b mask k i) y
      ∙ ap (λ (c : ℕ). get_or s i 0 ⊕ (gathered src at b mask k i ⊕ pick c y)) (sym e ∙ f)
      ∙ ap (λ (m : ℕ). onto s (gathered src at b mask m) i) (sym z)))

  pub gather_skip : (v : List ℕ) (x : ℕ) → x ≡ bit mask k → x ≢ 1 → v ≡ t → Patched s v 0 (length s) (onto s (gathered src at (length s) mask (k + 1)))
  unfolding onto gathered sum pick
  gather_skip v x f e c =
      let z : k + 1 ≡ suc k = omega arith in
      let n : bit mask k ≡ 0 = omega (arith, bit_digit mask k) in
      let b : ℕ = length s in
      rw c (patch_by s t 0 b (onto s (gathered src at b mask k)) (onto s (gathered src at b mask (k + 1))) d
      (λ i l.
      ap (λ (y : ℕ). get_or s i 0 ⊕ y) (sym (⊕_zero (gathered src at b mask k i)))
      ∙ ap (λ (c : ℕ). get_or s i 0 ⊕ (gathered src at b mask k i ⊕ pick c (get_or src (at + k * b + i) 0))) (sym n)
      ∙ ap (λ (m : ℕ). onto s (gathered src at b mask m) i) (sym z)))

pub gather_end : (src s t : List ℕ) (at mask k rows : ℕ) → Patched s t 0 (length s) (onto s (gathered src at (length s) mask k)) → k ≤ rows → rows ≤ k
    → Patched s t 0 (length s) (onto s (gathered src at (length s) mask rows))
gather_end src s t at mask k rows d h l =
    let z : k ≡ rows = omega arith in
    subst (λ (m : ℕ). Patched s t 0 (length s) (onto s (gathered src at (length s) mask m))) z d

-- ---- the columns of a list of words

-- the first m columns are in, and what is left makes the whole
pub record Taking (p q : ℕ) (src ats ws s t : List ℕ) (m : ℕ) : Type 0 where
  pub len : length t ≡ length s
  pub left : (i : ℕ) → i < length s → get_or t i 0 ⊕ taken p src (length s) q (drop m ats) (drop m ws) i ≡ get_or s i 0 ⊕ taken p src (length s) q ats ws i
  pub above : (o : ℕ) → length s ≤ o → get_or t o 0 ≡ get_or s o 0

pub taking_none : (p q : ℕ) (src ats ws s : List ℕ) → Taking p q src ats ws s s 0
taking_none p q src ats ws s = record { len = refl; left = λ i h. refl; above = λ o h. refl }

taken_cons : (p q b m i : ℕ) (src ats ws : List ℕ) → m < length ats → m < length ws
    → taken p src b q (drop m ats) (drop m ws) i
    ≡ gathered src (get_or ats m 0) b (mask_of p (get_or ws m 0) q) (pred p) i ⊕ taken p src b q (drop (suc m) ats) (drop (suc m) ws) i
unfolding taken
taken_cons p q b m i src ats ws h k = ap₂ (λ (x y : List ℕ). taken p src b q x y i) (drop-cons ats m 0 h) (drop-cons ws m 0 k)

pub taking_more : (p q : ℕ) (src ats ws s t u : List ℕ) (m x : ℕ) → Columns p q src ats ws s → Taking p q src ats ws s t m → m < length ws → x ≡ mask_of p (get_or ws m 0) q
    → Patched t u 0 (length t) (onto t (gathered src (get_or ats m 0) (length t) x (p - 1))) → Taking p q src ats ws s u (m + 1)
unfolding onto
taking_more p q src ats ws s t u m x C T h e d = record {
  len = d.len ∙ T.len;
  left = λ i l.
      let z : m + 1 ≡ suc m = omega arith in
      let k : i < length t = omega (arith, T.len) in
      let at : ℕ = get_or ats m 0 in
      let w : ℕ = mask_of p (get_or ws m 0) q in
      let S : ℕ = gathered src at (length s) w (pred p) i in
      let R : ℕ = taken p src (length s) q (drop (suc m) ats) (drop (suc m) ws) i in
      let v : get_or u i 0 ≡ get_or t i 0 ⊕ S =
      ap (λ (j : ℕ). get_or u j 0) (sym (zero-add i)) ∙ d.inner i k
      ∙ ap₂ (λ (y b : ℕ). get_or t i 0 ⊕ gathered src at b y (p - 1) i) e T.len
      ∙ ap (λ (j : ℕ). get_or t i 0 ⊕ gathered src at (length s) w j i) (pred_is p) in
      ap₂ (λ (a j : ℕ). a ⊕ taken p src (length s) q (drop j ats) (drop j ws) i) v z
      ∙ ⊕_assoc (get_or t i 0) S R
      ∙ ap (λ (a : ℕ). get_or t i 0 ⊕ a) (sym (taken_cons p q (length s) m i src ats ws (omega (arith, C.same)) h))
      ∙ T.left i l;
  above = λ o l. d.above o (omega (arith, T.len)) ∙ T.above o l;
}

pub taking_end : (p q : ℕ) (src ats ws s t : List ℕ) (m : ℕ) → Columns p q src ats ws s → Taking p q src ats ws s t m → length ws ≤ m
    → Patched s t 0 (length s) (onto s (taken p src (length s) q ats ws))
unfolding onto taken
taking_end p q src ats ws s t m C T h = record {
  len = T.len;
  below = λ o l. absurd (omega arith);
  inner = λ i l. ap (λ (j : ℕ). get_or t j 0) (zero-add i) ∙ sym (⊕_zero (get_or t i 0))
      ∙ ap (λ (x : List ℕ). get_or t i 0 ⊕ taken p src (length s) q x (drop m ws) i) (sym (drop_of_length-le ats {i = m} (omega (arith, C.same)))) ∙ T.left i l;
  above = λ o l. T.above o (omega arith);
}

pub taking_rows : (p q : ℕ) (src ats ws s t : List ℕ) (m : ℕ) → Columns p q src ats ws s → Taking p q src ats ws s t m → m < length ws → Rows src t (get_or ats m 0) (p - 1)
taking_rows p q src ats ws s t m C T h = record {
  inside = subst (λ (b : ℕ). get_or ats m 0 + (p - 1) * b ≤ length src) (sym T.len) (C.inside m (omega (arith, C.same)));
  few = omega (arith, C.small);
}
