-- A write to a lost column: the restored strip o stands in the image while the write goes on, then come back the bytes h that the column held.
-- Assumes nothing.
use Prim.Native.Nat.{ℕ, ◌+◌, ◌*◌, ◌/◌, ◌%◌, ◌<◌, ◌≤◌}
use mathlib.Core.Bool.{true}
use mathlib.Core.List.{List}
use mathlib.Core.Logic.{◌⊎◌, inl, inr, ⊎_elim}
use mathlib.Core.Path.{◌≡◌, refl, sym, ap₂, ◌∙◌}
use native.Mathlib.Nat.{mod-lt}
use native.Mathlib.Omega.{arith}
use lib.ListN.{length, get_or}
use lib.Seq.{ext_get_or}
use Rattle.laws.proofs.Patch.{patched}
use Rattle.laws.proofs.Place.{Place, place, before, inside, after}
use Rattle.laws.specs.Bit.{bit}
use Rattle.laws.specs.Part.{put}
use Rattle.laws.specs.Patch.{Patched, patch}
use Rattle.laws.specs.Sum.{pick}
use Rattle.laws.specs.Xor.{◌⊕◌}
use Rattle.stripe.proofs.Places.{strip_in, parity_in, parity_end}
use Rattle.stripe.specs.Layout.{rows, column_length, strip_at, parity_from}
use Rattle.stripe.specs.Reading.{Image}
use Rattle.stripe.specs.declared.Params.{Params}
use Rattle.pattern.specs.Pattern.{is_lost}
use Rattle.rebuild.specs.Lost.{whole_data}
use Rattle.write.proofs.After.{put_patched}
use Rattle.present.specs.Present.{present_word, present_moved, present_placed}
use Rattle.write.specs.Written.{difference}
use Rattle.away.specs.Away.{away_difference}

module _ (s u : List ℕ) (q : Params) (m i t : ℕ) (v o h : List ℕ) (I : Image s q) (hi : i < q.k) (ht : t < rows q) (hv : length v ≡ q.b)
    (ow : length o ≡ q.b) (ob : (x : ℕ) → x < q.b → get_or o x 0 ≡ whole_data s q m i t x) (g : Patched s u (strip_at q i t) (length o) (λ x. get_or o x 0))
    (hw : length h ≡ q.b) (hb : (x : ℕ) → x < q.b → get_or h x 0 ≡ get_or s (strip_at q i t + x) 0) (e : is_lost m i ≡ true) where
  abbrev at : ℕ
  at = strip_at q i t

  abbrev n : ℕ
  n = q.r * column_length q

  -- parity moves alike in u and in s
  f : ℕ → ℕ
  f = present_moved u q m i t (difference u q i t v)

  d : ℕ → ℕ
  d = present_moved s q m i t (away_difference s q m i t v)

  moved_alike : (k : ℕ) → k < n → f k ≡ d k
  unfolding f d present_moved difference away_difference
  moved_alike k l =
      let y : ℕ = k % column_length q % q.b in
      let hy : y < q.b = mod-lt (k % column_length q) I.admitted.b_low in
      ap₂ (λ (a c : ℕ). a ⊕ pick (bit (present_word q m i t (k / column_length q)) (k % column_length q / q.b)) (c ⊕ get_or v y 0))
      (g.above (parity_from q + k) (omega (arith, strip_in q i t hi ht))) (g.inner y (omega arith) ∙ ob y hy)

  -- the steps on u
  moved : List ℕ
  moved = patch u (parity_from q) n f

  placed : List ℕ
  placed = put moved at v

  back : List ℕ
  back = put placed at h

  moved_step : Patched u moved (parity_from q) n f
  unfolding moved
  moved_step = patched u moved (parity_from q) n f (omega (arith, I.len, g.len, parity_end q)) refl

  placed_step : Patched moved placed at (length v) (λ x. get_or v x 0)
  unfolding placed
  placed_step = put_patched moved v at (omega (arith, I.len, g.len, moved_step.len, strip_in q i t hi ht, parity_in q))

  back_step : Patched placed back at (length h) (λ x. get_or h x 0)
  unfolding back
  back_step = put_patched placed h at (omega (arith, I.len, g.len, moved_step.len, placed_step.len, strip_in q i t hi ht, parity_in q))

  -- what is due
  due_moved : List ℕ
  due_moved = patch s (parity_from q) n d

  due_step : Patched s due_moved (parity_from q) n d
  unfolding due_moved
  due_step = patched s due_moved (parity_from q) n d (omega (arith, I.len, parity_end q)) refl

  -- a byte outside the strip
  outside : (k : ℕ) → (k < at) ⊎ (at + q.b ≤ k) → get_or placed k 0 ≡ get_or due_moved k 0
  outside k a = ⊎_elim (λ c. placed_step.below k c) (λ c. placed_step.above k (omega arith)) a ∙ go (place (parity_from q) n k)
    where
      same : get_or u k 0 ≡ get_or s k 0
      same = ⊎_elim (λ c. g.below k c) (λ c. g.above k (omega arith)) a

      go : Place (parity_from q) n k → get_or moved k 0 ≡ get_or due_moved k 0
      go (before l) = moved_step.below k l ∙ same ∙ sym (due_step.below k l)
      go (inside x l z) = rw z (moved_step.inner x l ∙ moved_alike x l ∙ sym (due_step.inner x l))
      go (after l) = moved_step.above k l ∙ same ∙ sym (due_step.above k l)

  byte_back : (k : ℕ) → Place at q.b k → get_or back k 0 ≡ get_or due_moved k 0
  byte_back k (before l) = back_step.below k l ∙ outside k (inl l)
  byte_back k (inside x l z) =
      let y = strip_in q i t hi ht in
      rw z (back_step.inner x (omega arith) ∙ hb x l ∙ sym (due_step.below (at + x) (omega arith)))
  byte_back k (after l) = back_step.above k (omega arith) ∙ outside k (inr l)

  pub comes_back : put (put (patch u (parity_from q) n (present_moved u q m i t (difference u q i t v))) at v) at h ≡ present_placed (patch s (parity_from q) n (present_moved s q m i t (away_difference s q m i t v))) q m i t v
  unfolding back placed moved f due_moved d present_placed
  comes_back =
      ext_get_or 0 back due_moved (back_step.len ∙ placed_step.len ∙ moved_step.len ∙ g.len ∙ sym due_step.len) (λ k l. byte_back k (place at q.b k))
      ∙ rw e
