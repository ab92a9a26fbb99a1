-- An image written out from what stands in its sections: its counts put around them, its bytes, and that reading accepts it.
-- Assumes nothing.
use Prim.Native.Nat.{ℕ, ◌+◌, ◌-◌, ◌*◌, ◌/◌, ◌%◌, ◌<◌, ◌≤◌}
use mathlib.Core.List.{List, [], ◌∷◌, ◌++◌, append_assoc, append-nil}
use mathlib.Core.Path.{◌≡◌, refl, sym, ap, ap₂, ◌∙◌}
use native.Mathlib.Omega.{arith}
use lib.ListN.{length, get_or, take, drop, length-append, get_or-append, take-append-drop, drop_of_length-le}
use lib.Seq.{take-append_seam, drop-append_seam, get_or-append-add, drop-drop}
use borrow.Rule.Slice.PartMut.{put_mid}
use Rattle.std.specs.Int.{w16, w32, to_le_bytes}
use Rattle.laws.proofs.Mid.{mid_put}
use Rattle.laws.proofs.Part.{length_part, length_put, is_put, get_or_put_before, get_or_put_in, get_or_put_after}
use Rattle.laws.proofs.Place.{Place, place, before, inside, after}
use Rattle.laws.proofs.Tab.{length_tab, get_or_tab}
use Rattle.laws.specs.Number.{byte, u16, put32}
use Rattle.laws.specs.Part.{part, put, tab}
use Rattle.laws.specs.Patch.{patch}
use Rattle.stripe.specs.Layout.{column_length, revision_at, data_at, data_count_at, data_from, parity_count_at, parity_from, image_length}
use Rattle.stripe.specs.Params.{Admitted}
use Rattle.stripe.specs.Reading.{Image}
use Rattle.stripe.specs.Sections.{sixteen, three, opening, section_3, section_4, PutIn, image_of, revisions_in, columns_in, parities_in}
use Rattle.stripe.specs.declared.Params.{Params}

-- ---- lists of which a part is known

-- a list in the place of another that is as long
pub put_between : (s pre old post v : List ℕ) (at : ℕ) → s ≡ pre ++ (old ++ post) → length pre ≡ at → length v ≡ length old → put s at v ≡ pre ++ (v ++ post)
unfolding put
put_between s pre old post v at e l m =
    let front : take at s ≡ pre = ap₂ (λ (n : ℕ) (x : List ℕ). take n x) (sym l) e ∙ take-append_seam pre (old ++ post) in
    let z : s ≡ (pre ++ old) ++ post = e ∙ sym (append_assoc pre old post) in
    let n : at + length v ≡ length (pre ++ old) = simp length-append (omega arith) in
    let back : drop (at + length v) s ≡ post = ap₂ (λ (n : ℕ) (x : List ℕ). drop n x) n z ∙ drop-append_seam (pre ++ old) post in
    ap₂ (λ (x y : List ℕ). x ++ (v ++ y)) front back

-- a byte of a part
pub byte_in : (t pre v post : List ℕ) (at x : ℕ) → t ≡ pre ++ (v ++ post) → length pre ≡ at → x < length v → get_or t (at + x) 0 ≡ get_or v x 0
byte_in t pre v post at x z e h =
    let y : at + x ≡ length pre + x = omega arith in
    ap₂ (λ (l : List ℕ) (o : ℕ). get_or l o 0) z y ∙ get_or-append-add pre (v ++ post) x 0 ∙ get_or-append v post 0 x h

-- a number that stands in a list is read back
pub number_in : (t pre post : List ℕ) (v at : ℕ) → t ≡ pre ++ (sixteen v ++ post) → length pre ≡ at → v ≤ 65535 → u16 t at ≡ v
number_in t pre post v at z e h =
    let l = length_tab 2 (byte v) in
    let y : at + 0 ≡ at = omega arith in
    let a : get_or t at 0 ≡ v / 1 % 256 =
    ap (λ (o : ℕ). get_or t o 0) (sym y) ∙ byte_in t pre (sixteen v) post at 0 z e (omega arith) ∙ get_or_tab 2 (byte v) 0 (omega arith) in
    let b : get_or t (at + 1) 0 ≡ v / 256 % 256 = byte_in t pre (sixteen v) post at 1 z e (omega arith) ∙ get_or_tab 2 (byte v) 1 (omega arith) in
    rw (a, b) (omega arith)

-- a list put after another
put_next : (s v w : List ℕ) (at : ℕ) → at + length v + length w ≤ length s → put (put s at v) (at + length v) w ≡ put s at (v ++ w)
put_next s v w at h =
    let f : at + length v ≤ length s = omega arith in
    let k = length_put s at v f in
    let g : at + length v + length w ≤ length (put s at v) = omega arith in
    let l : length (v ++ w) ≡ length v + length w = length-append v w in
    is_put (put (put s at v) (at + length v) w) s at (v ++ w) (omega arith) (length_put (put s at v) (at + length v) w g ∙ k)
    (λ o b. get_or_put_before (put s at v) (at + length v) w g o (omega arith) ∙ get_or_put_before s at v f o b)
    (λ i b. go i (omega arith) (place 0 (length v) i) f g)
    (λ o b. get_or_put_after (put s at v) (at + length v) w g o (omega arith) ∙ get_or_put_after s at v f o (omega arith))
  where
    go : (i : ℕ) → i < length v + length w → Place 0 (length v) i → (f : at + length v ≤ length s) (g : at + length v + length w ≤ length (put s at v))
        → get_or (put (put s at v) (at + length v) w) (at + i) 0 ≡ get_or (v ++ w) i 0
    go i b (before c) f g = absurd (omega arith)
    go i b (inside j c e) f g =
        let d : i < length v = omega arith in
        get_or_put_before (put s at v) (at + length v) w g (at + i) (omega arith) ∙ get_or_put_in s at v f i d ∙ sym (get_or-append v w 0 i d)
    go i b (after c) f g =
        let j : ℕ = i - length v in
        let e : at + i ≡ at + length v + j = omega arith in
        let z : length v + j ≡ i = omega arith in
        ap (λ (x : ℕ). get_or (put (put s at v) (at + length v) w) x 0) e ∙ get_or_put_in (put s at v) (at + length v) w g j (omega arith)
        ∙ sym (get_or-append-add v w j 0) ∙ ap (λ (x : ℕ). get_or (v ++ w) x 0) z

-- what is left of a list from a place on, cut at another
pub cut_at : (s : List ℕ) (at n to : ℕ) → at + n ≡ to → drop at s ≡ part s at n ++ drop to s
unfolding part
cut_at s at n to e = sym (take-append-drop n (drop at s)) ∙ ap (λ (x : List ℕ). take n (drop at s) ++ x) (drop-drop n at s ∙ ap (λ (x : ℕ). drop x s) e)

-- ---- numbers put at a place

pub length_sixteen : (v : ℕ) → length (sixteen v) ≡ 2
length_sixteen v = length_tab 2 (byte v)

pub length_three : (a b c : ℕ) → length (three a b c) ≡ 6
length_three a b c = simp (length-append, length_tab)

pub length_opening : (c : ℕ) (q : Params) (n : ℕ) → length (opening c q n) ≡ 12
length_opening c q n = simp (length-append, length_tab)

-- bytes that code copied to a place are put there
two_bytes : (v : ℕ) → to_le_bytes w16 v ≡ tab 2 (byte v)
unfolding tab
two_bytes v = let z : v % 256 ≡ v / 1 % 256 = omega arith in ap (λ (b : ℕ). b ∷ v / 256 % 256 ∷ []) z

four_bytes : (v : ℕ) → to_le_bytes w32 v ≡ tab 4 (byte v)
unfolding tab
four_bytes v = let z : v % 256 ≡ v / 1 % 256 = omega arith in ap (λ (b : ℕ). b ∷ v / 256 % 256 ∷ v / 65536 % 256 ∷ v / 16777216 % 256 ∷ []) z

pub number_put : (s u : List ℕ) (at v : ℕ) → at + 2 ≤ length s → u ≡ to_le_bytes w16 v → PutIn s (put_mid at (at + 2 - at) s u) at (sixteen v)
number_put s u at v h e =
    let z = e ∙ two_bytes v in
    let p = mid_put s at (at + 2 - at) u (ap length z ∙ length_sixteen v ∙ omega arith) ∙ ap (put s at) z in
    record { len = ap length p ∙ length_put s at (sixteen v) (omega (arith, length_sixteen v)); bytes = p }

pub word_put : (s u : List ℕ) (at v : ℕ) → u ≡ to_le_bytes w32 v → put_mid at (at + 4 - at) s u ≡ put32 s at v
unfolding put32 patch
word_put s u at v e =
    let z = e ∙ four_bytes v in
    mid_put s at (at + 4 - at) u (ap length z ∙ length_tab 4 (byte v) ∙ omega arith) ∙ ap (put s at) z

pub three_put : (s t1 t2 t3 : List ℕ) (at a b c : ℕ) → PutIn t2 t3 (at + 4) (sixteen c) → PutIn t1 t2 (at + 2) (sixteen b) → PutIn s t1 at (sixteen a)
    → at + 6 ≤ length s → PutIn s t3 at (three a b c)
three_put s t1 t2 t3 at a b c w3 w2 w1 h =
    let la = length_sixteen a in
    let lb = length_sixteen b in
    let lc = length_sixteen c in
    let lab : length (sixteen a ++ sixteen b) ≡ 4 = length-append (sixteen a) (sixteen b) ∙ omega arith in
    let z2 : t2 ≡ put s at (sixteen a ++ sixteen b) =
    w2.bytes ∙ ap₂ (λ (x : List ℕ) (y : ℕ). put x (at + y) (sixteen b)) w1.bytes (sym la) ∙ put_next s (sixteen a) (sixteen b) at (omega arith) in
    record {
      len = w3.len ∙ w2.len ∙ w1.len;
      bytes = w3.bytes ∙ ap₂ (λ (x : List ℕ) (y : ℕ). put x (at + y) (sixteen c)) z2 (sym lab) ∙ put_next s (sixteen a ++ sixteen b) (sixteen c) at (omega arith);
    }

pub opening_put : (s t1 t2 : List ℕ) (c : ℕ) (q : Params) (n : ℕ) → PutIn t1 t2 6 (three q.r q.b n) → PutIn s t1 0 (three c q.p q.k) → 12 ≤ length s
    → PutIn s t2 0 (opening c q n)
opening_put s t1 t2 c q n w2 w1 h =
    let x : List ℕ = three c q.p q.k in
    let y : List ℕ = three q.r q.b n in
    let lx : length x ≡ 6 = length_three c q.p q.k in
    let ly : length y ≡ 6 = length_three q.r q.b n in
    let z : x ++ y ≡ opening c q n = simp append_assoc in
    let behind : 6 ≡ 0 + length x = omega arith in
    record {
      len = w2.len ∙ w1.len;
      bytes =
          w2.bytes ∙ ap₂ (λ (u : List ℕ) (m : ℕ). put u m y) w1.bytes behind ∙ put_next s x y 0 (omega arith) ∙ ap (put s 0) z;
    }

-- ---- the sections of an image

-- a slice of an image's length, cut where its counts and what stands between them begin
module _ (s : List ℕ) (q : Params) (l : length s ≡ image_length q) where
  pub in_sections : s ≡ part s 0 12 ++ (revisions_in s q ++ (part s (data_count_at q) 2 ++ (columns_in s q ++ (part s (parity_count_at q) 2 ++ parities_in s q))))
  in_sections =
      let a1 : drop 0 s ≡ part s 0 12 ++ drop 12 s = cut_at s 0 12 12 refl in
      let a2 = cut_at s 12 (4 * q.k) (data_count_at q) refl in
      let a3 = cut_at s (data_count_at q) 2 (data_from q) (omega arith) in
      let a4 = cut_at s (data_from q) (q.k * column_length q) (parity_count_at q) refl in
      let a5 = cut_at s (parity_count_at q) 2 (parity_from q) (omega arith) in
      let a6 = cut_at s (parity_from q) (q.r * column_length q) (image_length q) (omega arith) in
      let z : drop (image_length q) s ≡ [] = drop_of_length-le s {i = image_length q} (omega arith) in
      a1 ∙ rw (a2, a3, a4, a5, a6, z) (simp append-nil)

  pub length_revisions_in : length (revisions_in s q) ≡ 4 * q.k
  length_revisions_in = length_part s (revision_at 0) (4 * q.k) (omega arith)

  pub length_columns_in : length (columns_in s q) ≡ q.k * column_length q
  length_columns_in = length_part s (data_from q) (q.k * column_length q) (omega arith)

  pub length_parities_in : length (parities_in s q) ≡ q.r * column_length q
  length_parities_in = length_part s (parity_from q) (q.r * column_length q) (omega arith)

  pub counts_put : (t1 t2 t3 : List ℕ) (e f : ℕ) → PutIn t2 t3 f (sixteen q.r) → f ≡ data_at q q.k → PutIn t1 t2 e (sixteen q.k) → e ≡ revision_at q.k
      → PutIn s t1 0 (opening 4 q q.k) → t3 ≡ image_of q (revisions_in s q) (columns_in s q) (parities_in s q)
  unfolding image_of
  counts_put t1 t2 t3 e f w3 hf w2 he w1 =
      let o : List ℕ = opening 4 q q.k in
      let R : List ℕ = revisions_in s q in
      let D : List ℕ = columns_in s q in
      let P : List ℕ = parities_in s q in
      let c : List ℕ = sixteen q.k in
      let d : List ℕ = sixteen q.r in
      let x : List ℕ = part s (data_count_at q) 2 in
      let y : List ℕ = part s (parity_count_at q) 2 in
      let lo : length o ≡ 12 = length_opening 4 q q.k in
      let l0 : length (part s 0 12) ≡ 12 = length_part s 0 12 (omega arith) in
      let lx : length x ≡ 2 = length_part s (data_count_at q) 2 (omega arith) in
      let ly : length y ≡ 2 = length_part s (parity_count_at q) 2 (omega arith) in
      let lc : length c ≡ 2 = length_sixteen q.k in
      let ld : length d ≡ 2 = length_sixteen q.r in
      let lR = length_revisions_in in
      let lD = length_columns_in in
      let z1 : t1 ≡ o ++ (R ++ (x ++ (D ++ (y ++ P)))) = w1.bytes ∙ put_between s [] (part s 0 12) _ o 0 in_sections refl (lo ∙ sym l0) in
      let z2 : t2 ≡ (o ++ R) ++ (c ++ (D ++ (y ++ P))) =
      w2.bytes ∙ put_between t1 (o ++ R) x _ c e (z1 ∙ sym (append_assoc o R _)) (length-append o R ∙ omega arith) (lc ∙ sym lx) in
      let lf : length (o ++ R ++ c ++ D) ≡ f = simp (length-append, length_tab) (omega arith) in
      let z3 : t3 ≡ (o ++ R ++ c ++ D) ++ (d ++ P) = w3.bytes ∙ put_between t2 (o ++ R ++ c ++ D) y _ d f (z2 ∙ simp append_assoc) lf (ld ∙ sym ly) in
      z3 ∙ simp append_assoc

-- ---- an image by what stands in its sections

module _ (q : Params) (a b c : List ℕ) (la : length a ≡ 4 * q.k) (lb : length b ≡ q.k * column_length q) (lc : length c ≡ q.r * column_length q) where
  pub length_image_of : length (image_of q a b c) ≡ image_length q
  unfolding image_of
  length_image_of = simp (length-append, length_tab) (omega arith)

  pub of_opening : (o : ℕ) → o < revision_at 0 → get_or (image_of q a b c) o 0 ≡ get_or (opening 4 q q.k) o 0
  unfolding image_of
  of_opening o h =
      let rest : List ℕ = a ++ section_3 q b ++ section_4 q c in
      let z : image_of q a b c ≡ opening 4 q q.k ++ rest = simp append_assoc in
      ap (λ (t : List ℕ). get_or t o 0) z ∙ get_or-append (opening 4 q q.k) rest 0 o (omega (arith, length_opening 4 q q.k))

  pub of_revisions : (x : ℕ) → x < 4 * q.k → get_or (image_of q a b c) (revision_at 0 + x) 0 ≡ get_or a x 0
  unfolding image_of
  of_revisions x h = byte_in (image_of q a b c) (opening 4 q q.k) a (section_3 q b ++ section_4 q c) (revision_at 0) x (simp append_assoc) (length_opening 4 q q.k) (omega arith)

  pub of_third : (x : ℕ) → x < 2 → get_or (image_of q a b c) (data_count_at q + x) 0 ≡ get_or (sixteen q.k) x 0
  unfolding image_of
  of_third x h =
      byte_in (image_of q a b c) (opening 4 q q.k ++ a) (sixteen q.k) (b ++ section_4 q c) (data_count_at q) x (simp append_assoc) (simp (length-append, length_tab) (omega arith)) (omega (arith, length_sixteen q.k))

  pub of_columns : (x : ℕ) → x < q.k * column_length q → get_or (image_of q a b c) (data_from q + x) 0 ≡ get_or b x 0
  unfolding image_of
  of_columns x h =
      byte_in (image_of q a b c) (opening 4 q q.k ++ a ++ sixteen q.k) b (section_4 q c) (data_from q) x (simp append_assoc) (simp (length-append, length_tab) (omega arith)) (omega arith)

  pub of_fourth : (x : ℕ) → x < 2 → get_or (image_of q a b c) (parity_count_at q + x) 0 ≡ get_or (sixteen q.r) x 0
  unfolding image_of
  of_fourth x h =
      byte_in (image_of q a b c) (opening 4 q q.k ++ a ++ sixteen q.k ++ b) (sixteen q.r) c (parity_count_at q) x (simp append_assoc) (simp (length-append, length_tab) (omega arith)) (omega (arith, length_sixteen q.r))

  pub of_parities : (x : ℕ) → x < q.r * column_length q → get_or (image_of q a b c) (parity_from q + x) 0 ≡ get_or c x 0
  unfolding image_of
  of_parities x h =
      byte_in (image_of q a b c) (opening 4 q q.k ++ a ++ sixteen q.k ++ b ++ sixteen q.r) c [] (parity_from q) x (simp (append_assoc, append-nil)) (simp (length-append, length_tab) (omega arith)) (omega arith)

  -- reading accepts it
  pub image_of_image : Admitted q → Image (image_of q a b c) q
  unfolding image_of
  image_of_image A =
      let t : List ℕ = image_of q a b c in
      let f : List ℕ = sixteen 4 in
      let p : List ℕ = sixteen q.p in
      let k : List ℕ = sixteen q.k in
      let r : List ℕ = sixteen q.r in
      let s : List ℕ = sixteen q.b in
      record {
        admitted = A;
        four = number_in t [] (p ++ k ++ r ++ s ++ k ++ a ++ k ++ b ++ r ++ c) 4 0 (simp append_assoc) refl (omega arith);
        p_at = number_in t f (k ++ r ++ s ++ k ++ a ++ k ++ b ++ r ++ c) q.p 2 (simp append_assoc) (simp length_tab) (omega (arith, A.p_high));
        k_at = number_in t (f ++ p) (r ++ s ++ k ++ a ++ k ++ b ++ r ++ c) q.k 4 (simp append_assoc) (simp (length-append, length_tab)) (omega (arith, A.p_high, A.fits));
        r_at = number_in t (f ++ p ++ k) (s ++ k ++ a ++ k ++ b ++ r ++ c) q.r 6 (simp append_assoc) (simp (length-append, length_tab)) (omega (arith, A.p_high, A.fits));
        b_at = number_in t (f ++ p ++ k ++ r) (k ++ a ++ k ++ b ++ r ++ c) q.b 8 (simp append_assoc) (simp (length-append, length_tab)) (omega (arith, A.b_high));
        len = length_image_of;
        k_first = number_in t (f ++ p ++ k ++ r ++ s) (a ++ k ++ b ++ r ++ c) q.k 10 (simp append_assoc) (simp (length-append, length_tab)) (omega (arith, A.p_high, A.fits));
        k_again = number_in t (opening 4 q q.k ++ a) (b ++ r ++ c) q.k (data_count_at q) (simp append_assoc) (simp (length-append, length_tab) (omega arith)) (omega (arith, A.p_high, A.fits));
        r_there = number_in t (opening 4 q q.k ++ a ++ k ++ b) c q.r (parity_count_at q) (simp append_assoc) (simp (length-append, length_tab) (omega arith)) (omega (arith, A.p_high, A.fits));
      }

-- the parities of an image put anew
pub parities_put : (q : Params) (a b c d : List ℕ) → length a ≡ 4 * q.k → length b ≡ q.k * column_length q → length d ≡ length c
    → put (image_of q a b c) (parity_from q) d ≡ image_of q a b d
unfolding image_of
parities_put q a b c d la lb ld =
    put_between (image_of q a b c) (opening 4 q q.k ++ a ++ sixteen q.k ++ b ++ sixteen q.r) c [] d (parity_from q) (simp (append_assoc, append-nil)) (simp (length-append, length_tab) (omega arith)) ld
    ∙ simp (append_assoc, append-nil)
