-- A rebuilt image by its bytes: byte x of strip t of each column, and what is no column.
-- Assumes nothing.
use Prim.Native.Nat.{ℕ, ◌+◌, ◌*◌, ◌/◌, ◌%◌, ◌<◌, ◌≤◌}
use mathlib.Core.List.{List}
use mathlib.Core.Path.{◌≡◌, sym, ap, ap₂, ◌∙◌, refl}
use native.Mathlib.Nat.{mul-pos, mod-lt, div-add-mod', div-lt_iff_lt-mul}
use native.Mathlib.Omega.{arith}
use lib.Arith.{digits_lt, digits_div, digits_mod}
use lib.ListN.{length, get_or, get_or-eq_default}
use Rattle.laws.proofs.Patch.{patched, is_patch}
use Rattle.laws.proofs.Place.{Place, place, before, inside, after}
use Rattle.laws.specs.Patch.{Patched, patch}
use Rattle.stripe.specs.Layout.{rows, column_length, data_from, parity_from, parity_count_at, image_length, data_byte, parity_byte}
use Rattle.stripe.specs.Params.{Admitted}
use Rattle.stripe.specs.declared.Params.{Params}
use Rattle.rebuild.specs.Lost.{whole_data, whole_parity, rebuilt}

-- ---- k columns of n strips of b bytes from a place on, by offset and by column, strip and byte

cell_at : (from c b i t x : ℕ) → from + i * c + t * b + x ≡ from + (i * c + (t * b + x))
cell_at from c b i t x = omega arith

module _ (s : List ℕ) (from n b k : ℕ) (f : ℕ → ℕ → ℕ → ℕ) where
  pub by_cell : ((o : ℕ) → o < k * (n * b) → get_or s (from + o) 0 ≡ f (o / (n * b)) (o % (n * b) / b) (o % (n * b) % b))
      → (i t x : ℕ) → i < k → t < n → x < b → get_or s (from + i * (n * b) + t * b + x) 0 ≡ f i t x
  by_cell h i t x hi ht hx =
      let l : t * b + x < n * b = digits_lt ht hx in
      ap (λ (o : ℕ). get_or s o 0) (cell_at from (n * b) b i t x)
      ∙ h (i * (n * b) + (t * b + x)) (digits_lt hi l)
      ∙ ap₂ (λ (u v : ℕ). f u (v / b) (v % b)) (digits_div i l) (digits_mod i l)
      ∙ ap₂ (f i) (digits_div t hx) (digits_mod t hx)

  pub by_offset : 0 < n → 0 < b → ((i t x : ℕ) → i < k → t < n → x < b → get_or s (from + i * (n * b) + t * b + x) 0 ≡ f i t x)
      → (o : ℕ) → o < k * (n * b) → get_or s (from + o) 0 ≡ f (o / (n * b)) (o % (n * b) / b) (o % (n * b) % b)
  by_offset hn hb h o l =
      let c : ℕ = n * b in
      let pos : 0 < n * b = mul-pos hn hb in
      let low : o % c < n * b = mod-lt o pos in
      let e : o ≡ o / c * c + (o % c / b * b + o % c % b) = sym (ap (λ (v : ℕ). o / c * c + v) (div-add-mod' (o % c) b) ∙ div-add-mod' o c) in
      ap (λ (v : ℕ). get_or s (from + v) 0) e
      ∙ ap (λ (v : ℕ). get_or s v 0) (sym (cell_at from c b (o / c) (o % c / b) (o % c % b)))
      ∙ h (o / c) (o % c / b) (o % c % b) ((div-lt_iff_lt-mul pos).1 l) ((div-lt_iff_lt-mul hb).1 low) (mod-lt (o % c) hb)

-- ---- a rebuilt image

module _ (s : List ℕ) (q : Params) (m : ℕ) (l : length s ≡ image_length q) where
  data_at_offset : ℕ → ℕ
  data_at_offset o = whole_data s q m (o / column_length q) (o % column_length q / q.b) (o % column_length q % q.b)

  parity_at_offset : ℕ → ℕ
  parity_at_offset o = whole_parity s q m (o / column_length q) (o % column_length q / q.b) (o % column_length q % q.b)

  half : List ℕ
  half = patch s (data_from q) (q.k * column_length q) data_at_offset

  half_patched : Patched s half (data_from q) (q.k * column_length q) data_at_offset
  unfolding half
  half_patched = patched s half (data_from q) (q.k * column_length q) data_at_offset (omega arith) refl

  half_fits : parity_from q + q.r * column_length q ≤ length half
  half_fits = omega (arith, half_patched.len)

  whole_patched : Patched half (rebuilt s q m) (parity_from q) (q.r * column_length q) parity_at_offset
  unfolding rebuilt half data_at_offset parity_at_offset
  whole_patched = patched half (rebuilt s q m) (parity_from q) (q.r * column_length q) parity_at_offset half_fits refl

  pub rebuilt_length : length (rebuilt s q m) ≡ length s
  rebuilt_length = whole_patched.len ∙ half_patched.len

  -- "Present bytes and all revisions stay."
  pub rebuilt_front : (o : ℕ) → o < data_from q → get_or (rebuilt s q m) o 0 ≡ get_or s o 0
  rebuilt_front o h = whole_patched.below o (omega arith) ∙ half_patched.below o h

  pub rebuilt_count : (o : ℕ) → parity_count_at q ≤ o → o < parity_from q → get_or (rebuilt s q m) o 0 ≡ get_or s o 0
  rebuilt_count o h k = whole_patched.below o k ∙ half_patched.above o h

  pub rebuilt_data : (i t x : ℕ) → i < q.k → t < rows q → x < q.b → data_byte (rebuilt s q m) q i t x ≡ whole_data s q m i t x
  unfolding data_at_offset
  rebuilt_data =
      by_cell (rebuilt s q m) (data_from q) (rows q) q.b q.k (whole_data s q m)
      (λ o h. whole_patched.below (data_from q + o) (omega arith) ∙ half_patched.inner o h)

  pub rebuilt_parity : (j t x : ℕ) → j < q.r → t < rows q → x < q.b → parity_byte (rebuilt s q m) q j t x ≡ whole_parity s q m j t x
  unfolding parity_at_offset
  rebuilt_parity = by_cell (rebuilt s q m) (parity_from q) (rows q) q.b q.r (whole_parity s q m) whole_patched.inner

  -- a list is the rebuilt image, by its bytes
  pub is_rebuilt : (t : List ℕ) → Admitted q → length t ≡ length s
      → ((o : ℕ) → o < data_from q → get_or t o 0 ≡ get_or s o 0)
      → ((o : ℕ) → parity_count_at q ≤ o → o < parity_from q → get_or t o 0 ≡ get_or s o 0)
      → ((i u x : ℕ) → i < q.k → u < rows q → x < q.b → data_byte t q i u x ≡ whole_data s q m i u x)
      → ((j u x : ℕ) → j < q.r → u < rows q → x < q.b → parity_byte t q j u x ≡ whole_parity s q m j u x)
      → t ≡ rebuilt s q m
  unfolding rebuilt half data_at_offset parity_at_offset
  is_rebuilt t a e front count columns parities =
      is_patch half t (parity_from q) (q.r * column_length q) parity_at_offset half_fits (record {
        len = e ∙ sym half_patched.len;
        below = λ o h. go o h (place (data_from q) (q.k * column_length q) o);
        inner = by_offset t (parity_from q) (rows q) q.b q.r (whole_parity s q m) (omega arith) a.b_low parities;
        above = λ o h.
            let x : length t ≤ o = omega arith in
            let y : length half ≤ o = omega (arith, half_patched.len) in
            get_or-eq_default t 0 x ∙ sym (get_or-eq_default half 0 y);
      })
    where
      go : (o : ℕ) → o < parity_from q → Place (data_from q) (q.k * column_length q) o → get_or t o 0 ≡ get_or half o 0
      go o h (before b) = front o b ∙ sym (half_patched.below o b)
      go o h (inside i b z) =
          rw z (by_offset t (data_from q) (rows q) q.b q.k (whole_data s q m) (omega arith) a.b_low columns i b ∙ sym (half_patched.inner i b))
      go o h (after b) = count o b h ∙ sym (half_patched.above o b)
