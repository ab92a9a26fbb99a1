-- What the image holds after an accepted write.
-- Assumes nothing.
use Prim.Native.Nat.{ℕ, ◌+◌, ◌*◌, ◌<◌, ◌≤◌, ◌/◌, ◌^◌}
use mathlib.Core.Bool.{Bool, true, false}
use mathlib.Core.List.{List}
use mathlib.Core.Logic.{◌⊎◌, inl, inr, ⊎_elim, ◌≢◌}
use mathlib.Core.Path.{◌≡◌, refl, sym, ap, subst, ◌∙◌}
use native.Mathlib.Nat.{mod-lt}
use native.Mathlib.Omega.{arith}
use lib.Arith.{digits_div, digits_mod}
use lib.ListN.{length, get_or}
use Rattle.laws.proofs.Number.{put32_patched, u32_put32}
use Rattle.laws.proofs.Part.{length_put, get_or_put_before, get_or_put_in, get_or_put_after}
use Rattle.laws.proofs.Patch.{patched}
use Rattle.laws.proofs.Place.{Place, place, before, inside, after}
use Rattle.laws.proofs.Rows.{row_in}
use Rattle.laws.specs.Bit.{bit}
use Rattle.laws.specs.Number.{byte, put32}
use Rattle.laws.specs.Part.{put}
use Rattle.laws.specs.Patch.{Patched, patch}
use Rattle.laws.specs.Sum.{pick}
use Rattle.laws.specs.Xor.{◌⊕◌}
use Rattle.stripe.proofs.Frame.{image_same}
use Rattle.stripe.proofs.Places.{parity_end, strip_in, parity_in, revision_in, strips_apart, revisions_apart}
use Rattle.stripe.specs.Layout.{data_count_at, data_from, revision_at, revision_of, column_length, parity_byte, rows, parity_from, parity_strip_at, strip_at, data_byte}
use Rattle.stripe.specs.Reading.{Image}
use Rattle.stripe.specs.declared.Params.{Params}
use Rattle.block.specs.Touches.{touches}
use Rattle.revision.specs.Revision.{renewed}
use Rattle.pattern.specs.Pattern.{is_lost}
use Rattle.pattern.proofs.Single.{none_lost}
use Rattle.present.proofs.Empty.{word_none}
use Rattle.write.proofs.Empty.{written_none}
use Rattle.present.specs.Present.{present_word, present_moved, present_placed, present_written}
use Rattle.write.specs.Steps.{Kept}
use Rattle.write.specs.Written.{difference, written}

pub put_patched : (s v : List ℕ) (at : ℕ) → at + length v ≤ length s → Patched s (put s at v) at (length v) (λ x. get_or v x 0)
put_patched s v at h = record { len = length_put s at v h; below = get_or_put_before s at v h; inner = get_or_put_in s at v h; above = get_or_put_after s at v h }

revision_same : (s u : List ℕ) (i : ℕ) → ((o : ℕ) → revision_at i ≤ o → o < revision_at i + 4 → get_or u o 0 ≡ get_or s o 0) → revision_of u i ≡ revision_of s i
revision_same s u i h =
    let a : ℕ = revision_at i in
    omega (arith, h a (omega arith) (omega arith), h (a + 1) (omega arith) (omega arith), h (a + 2) (omega arith) (omega arith), h (a + 2 + 1) (omega arith) (omega arith))

-- byte x of strip u of parity column j, among all bytes of parity
moved_at : (s : List ℕ) (q : Params) (m i t : ℕ) (d : ℕ → ℕ) (j u x : ℕ) → u < rows q → x < q.b
    → present_moved s q m i t d (j * column_length q + (u * q.b + x)) ≡ parity_byte s q j u x ⊕ pick (bit (present_word q m i t j) u) (d x)
unfolding present_moved
moved_at s q m i t d j u x hu hx =
    let l : u * q.b + x < column_length q = omega (arith, row_in u (rows q) q.b hu) in
    let z : parity_from q + (j * column_length q + (u * q.b + x)) ≡ parity_strip_at q j u + x = omega arith in
    rw (z, digits_div j l, digits_mod j l, digits_div u hx, digits_mod u hx)

-- ---- while the columns of a pattern m are lost, by the difference d

module _ (s : List ℕ) (q : Params) (m i t b : ℕ) (v : List ℕ) (d : ℕ → ℕ) (I : Image s q) (hi : i < q.k) (ht : t < rows q) (hv : length v ≡ q.b) where
  abbrev new : List ℕ
  new = present_written s q m i t b v d

  shift : List ℕ
  shift = patch s (parity_from q) (q.r * column_length q) (present_moved s q m i t d)

  fill : List ℕ
  fill = present_placed shift q m i t v

  parity_step : Patched s shift (parity_from q) (q.r * column_length q) (present_moved s q m i t d)
  unfolding shift
  parity_step = patched s shift (parity_from q) (q.r * column_length q) (present_moved s q m i t d) (omega (arith, I.len, parity_end q)) refl

  fill_lost : is_lost m i ≡ true → fill ≡ shift
  unfolding fill present_placed
  fill_lost e = rw e

  strip_step : is_lost m i ≡ false → Patched shift fill (strip_at q i t) (length v) (λ x. get_or v x 0)
  unfolding fill present_placed
  strip_step e = rw e (put_patched shift v (strip_at q i t) (omega (arith, I.len, parity_step.len, strip_in q i t hi ht, parity_in q)))

  fill_len : length fill ≡ length shift
  fill_len = go (is_lost m i) refl
    where
      go : (c : Bool) → is_lost m i ≡ c → length fill ≡ length shift
      go true e = ap length (fill_lost e)
      go false e = (strip_step e).len

  fill_same : (o : ℕ) → (o < strip_at q i t) ⊎ (strip_at q i t + q.b ≤ o) → get_or fill o 0 ≡ get_or shift o 0
  fill_same o k = go (is_lost m i) refl
    where
      go : (c : Bool) → is_lost m i ≡ c → get_or fill o 0 ≡ get_or shift o 0
      go true e = ap (λ (l : List ℕ). get_or l o 0) (fill_lost e)
      go false e = ⊎_elim (λ l. (strip_step e).below o l) (λ l. (strip_step e).above o (omega arith)) k

  revision_fits : revision_at i + 4 ≤ length fill
  revision_fits = omega (arith, I.len, parity_step.len, fill_len, revision_in q i hi)

  revision_step : Patched fill new (revision_at i) 4 (byte (renewed b))
  unfolding present_written shift fill
  revision_step = put32_patched fill (revision_at i) (renewed b) revision_fits

  -- a byte outside parity, the strip and the revision
  same : (o : ℕ) → o < parity_from q → (o < strip_at q i t) ⊎ (strip_at q i t + q.b ≤ o) → (o < revision_at i) ⊎ (revision_at i + 4 ≤ o) → get_or new o 0 ≡ get_or s o 0
  same o h g k = ⊎_elim (λ l. revision_step.below o l) (λ l. revision_step.above o l) k ∙ fill_same o g ∙ parity_step.below o h

  -- the length, the parameters and every count stay
  pub present_rest : Kept q s new
  present_rest =
      let r = revision_in q i hi in
      let z = strip_in q i t hi ht in
      record {
        len = revision_step.len ∙ fill_len ∙ parity_step.len;
        front = λ o h. same o (omega arith) (inl (omega arith)) (inl (omega arith));
        middle = λ o h g. same o (omega arith) (inl (omega arith)) (inr (omega arith));
        back = λ o h g. same o g (inr (omega arith)) (inr (omega arith));
      }

  -- "and its revision": its four bytes, and all else before the data
  pub present_revision : (n : ℕ) → n < 4 → get_or new (revision_at i + n) 0 ≡ byte (renewed b) n
  present_revision = revision_step.inner

  pub present_front : (o : ℕ) → o < data_from q → (o < revision_at i) ⊎ (revision_at i + 4 ≤ o) → get_or new o 0 ≡ get_or s o 0
  present_front o h k = same o (omega arith) (inl (omega arith)) k

  -- the strip, where its column is present
  pub present_strip_here : is_lost m i ≡ false → (x : ℕ) → x < q.b → data_byte new q i t x ≡ get_or v x 0
  present_strip_here e x h =
      let r = revision_in q i hi in
      revision_step.above (strip_at q i t + x) (omega arith) ∙ (strip_step e).inner x (omega arith)

  pub present_strip_lost : is_lost m i ≡ true → (t' x : ℕ) → t' < rows q → x < q.b → data_byte new q i t' x ≡ data_byte s q i t' x
  present_strip_lost e t' x g l =
      let r = revision_in q i hi in
      let z = strip_in q i t' hi g in
      revision_step.above (strip_at q i t' + x) (omega arith) ∙ ap (λ (k : List ℕ). get_or k (strip_at q i t' + x) 0) (fill_lost e)
      ∙ parity_step.below (strip_at q i t' + x) (omega arith)

  pub present_strip_elsewhere : (i' t' x : ℕ) → i' < q.k → t' < rows q → x < q.b → (i ≡ i' → t ≢ t') → data_byte new q i' t' x ≡ data_byte s q i' t' x
  present_strip_elsewhere i' t' x h g l n =
      let r = revision_in q i hi in
      let z = strip_in q i' t' h g in
      same (strip_at q i' t' + x) (omega arith)
      (⊎_elim (λ c. inr (omega arith)) (λ c. inl (omega arith)) (strips_apart q i t i' t' ht g n)) (inr (omega arith))

  -- "only the present parity"
  pub present_parity : (j u x : ℕ) → j < q.r → u < rows q → x < q.b → parity_byte new q j u x ≡ parity_byte s q j u x ⊕ pick (bit (present_word q m i t j) u) (d x)
  present_parity j u x h g l =
      let r = revision_in q i hi in
      let z = strip_in q i t hi ht in
      let o : ℕ = j * column_length q + (u * q.b + x) in
      let e : parity_strip_at q j u + x ≡ parity_from q + o = omega arith in
      let k : o < q.r * column_length q = omega (arith, row_in j q.r (column_length q) h, row_in u (rows q) q.b g) in
      revision_step.above (parity_strip_at q j u + x) (omega arith) ∙ fill_same (parity_strip_at q j u + x) (inr (omega arith))
      ∙ ap (λ (n : ℕ). get_or shift n 0) e ∙ parity_step.inner o k ∙ moved_at s q m i t d j u x g l

-- ---- with no column lost

module _ (s : List ℕ) (q : Params) (i t b : ℕ) (v : List ℕ) (I : Image s q) (hi : i < q.k) (ht : t < rows q) (hv : length v ≡ q.b) where
  d : ℕ → ℕ
  d = difference s q i t v

  is : present_written s q 0 i t b v d ≡ written s q i t b v
  unfolding d
  is = written_none s q i t b v

  -- the length, the parameters and every count stay
  pub written_rest : Kept q s (written s q i t b v)
  written_rest = subst (Kept q s) is (present_rest s q 0 i t b v d I hi ht hv)

  -- "An accepted write" leaves an accepted image with the same parameters
  pub written_image : Image (written s q i t b v) q
  written_image = let K = written_rest in image_same s (written s q i t b v) q I K.len K.front K.middle K.back

  -- "puts the new strip in place"
  pub written_strip_here : (x : ℕ) → x < q.b → data_byte (written s q i t b v) q i t x ≡ get_or v x 0
  written_strip_here x h = ap (λ (l : List ℕ). data_byte l q i t x) (sym is) ∙ present_strip_here s q 0 i t b v d I hi ht hv (none_lost i) x h

  pub written_strip_elsewhere : (i' t' x : ℕ) → i' < q.k → t' < rows q → x < q.b → (i ≡ i' → t ≢ t') → data_byte (written s q i t b v) q i' t' x ≡ data_byte s q i' t' x
  written_strip_elsewhere i' t' x h g l n = ap (λ (l : List ℕ). data_byte l q i' t' x) (sym is) ∙ present_strip_elsewhere s q 0 i t b v d I hi ht hv i' t' x h g l n

  -- "adds its difference to parity"
  pub written_parity : (j u x : ℕ) → j < q.r → u < rows q → x < q.b
      → parity_byte (written s q i t b v) q j u x ≡ parity_byte s q j u x ⊕ pick (touches q i t j u) (difference s q i t v x)
  unfolding touches d
  written_parity j u x h g l =
      ap (λ (l : List ℕ). parity_byte l q j u x) (sym is) ∙ present_parity s q 0 i t b v d I hi ht hv j u x h g l
      ∙ ap (λ (w : ℕ). parity_byte s q j u x ⊕ pick (bit w u) (difference s q i t v x)) (word_none q i t j)

  -- a byte before the data: of the revision, or another
  front : (o : ℕ) → o < data_from q → (o < revision_at i) ⊎ (revision_at i + 4 ≤ o) → get_or (written s q i t b v) o 0 ≡ get_or s o 0
  front o h k = ap (λ (l : List ℕ). get_or l o 0) (sym is) ∙ present_front s q 0 i t b v d I hi ht hv o h k

  revision_byte : (n : ℕ) → n < 4 → get_or (written s q i t b v) (revision_at i + n) 0 ≡ byte (renewed b) n
  revision_byte n h = ap (λ (l : List ℕ). get_or l (revision_at i + n) 0) (sym is) ∙ present_revision s q 0 i t b v d I hi ht hv n h

  -- "sets the revision to (b + 1) mod 2^32"
  pub written_revision_here : revision_of (written s q i t b v) i ≡ renewed b
  unfolding renewed
  written_revision_here =
      revision_same (put32 s (revision_at i) (renewed b)) (written s q i t b v) i
      (λ o g l. go (place (revision_at i) 4 o) g l)
      ∙ u32_put32 s (revision_at i) (renewed b) fits (mod-lt (b + 1) (omega arith))
    where
      fits : revision_at i + 4 ≤ length s
      fits = omega (arith, I.len, revision_in q i hi)

      go : {o : ℕ} → Place (revision_at i) 4 o → revision_at i ≤ o → o < revision_at i + 4 → get_or (written s q i t b v) o 0 ≡ get_or (put32 s (revision_at i) (renewed b)) o 0
      go (before l) g k = absurd (omega arith)
      go (inside n l e) g k = rw e (revision_byte n l ∙ sym ((put32_patched s (revision_at i) (renewed b) fits).inner n l))
      go (after l) g k = absurd (omega arith)

  pub written_revision_elsewhere : (i' : ℕ) → i' < q.k → i' ≢ i → revision_of (written s q i t b v) i' ≡ revision_of s i'
  written_revision_elsewhere i' h n =
      revision_same s (written s q i t b v) i'
      (λ o g l. front o (omega arith) (⊎_elim (λ c. inl (omega arith)) (λ c. inr (omega arith)) (revisions_apart i' i n)))

  -- the bytes of revisions stay bytes, whatever the strip is made of
  pub written_small : (o : ℕ) → o < data_count_at q → get_or s o 0 < 256 → get_or (written s q i t b v) o 0 < 256
  written_small o h small = go (place (revision_at i) 4 o)
    where
      other : (o < revision_at i) ⊎ (revision_at i + 4 ≤ o) → get_or (written s q i t b v) o 0 < 256
      other k = subst (λ (x : ℕ). x < 256) (sym (front o (omega arith) k)) small

      go : Place (revision_at i) 4 o → get_or (written s q i t b v) o 0 < 256
      go (before l) = other (inl l)
      go (inside m l e) = rw e (subst (λ (x : ℕ). x < 256) (sym (revision_byte m l)) (mod-lt (renewed b / 256 ^ m) (omega arith)))
      go (after l) = other (inr l)
