-- An image of the data, whatever its parity: to set that makes it the right one.
-- Assumes nothing.
use Prim.Native.Nat.{ℕ, ◌+◌, ◌*◌, ◌/◌, ◌%◌, ◌<◌, ◌≤◌}
use mathlib.Core.List.{List}
use mathlib.Core.Logic.{inl, inr}
use mathlib.Core.Path.{◌≡◌, sym, ap, ap₂, ◌∙◌, fun_ext}
use native.Mathlib.Nat.{mod-lt}
use native.Mathlib.Omega.{arith}
use lib.ListN.{length, get_or}
use Rattle.laws.proofs.Part.{length_put, part_put, part_apart}
use Rattle.laws.proofs.Tab.{length_tab}
use Rattle.laws.specs.Part.{part, put, tab}
use Rattle.laws.specs.Patch.{patch}
use Rattle.stripe.proofs.Places.{strip_in}
use Rattle.stripe.proofs.Images.{image_of_image, of_columns, parities_put}
use Rattle.stripe.specs.Layout.{revision_at, data_at, data_from, strip_at, rows, data_byte, parity_from, column_length}
use Rattle.stripe.specs.Params.{Admitted}
use Rattle.stripe.specs.Reading.{Image}
use Rattle.stripe.specs.Sections.{image_of, revisions_in, columns_in, parities_in}
use Rattle.stripe.specs.declared.Params.{Params}
use Rattle.block.proofs.Touching.{due_agree}
use Rattle.block.specs.Parity.{due_at, refilled}
use Rattle.parity.specs.Inner.{Room, unset}
use Rattle.parity.specs.Make.{given, made}

abbrev zeros : Params → List ℕ
zeros q = tab (4 * q.k) (λ o. 0)

pub length_zeros : (q : Params) → length (zeros q) ≡ 4 * q.k
length_zeros q = length_tab (4 * q.k) (λ o. 0)

-- ---- `put_data`: revisions, data, then the counts around them

module _ (d s t u : List ℕ) (q : Params) (at to : ℕ) (R : Room d s q) (e2 : u ≡ put t to d) (to_is : to ≡ data_at q 0) (e1 : t ≡ put s at (zeros q)) (at_is : at ≡ revision_at 0) where
  lz : length (zeros q) ≡ 4 * q.k
  lz = length_zeros q

  at_in : at + length (zeros q) ≤ length s
  at_in = omega (arith, lz, R.room)

  lt : length t ≡ length s
  lt = ap length e1 ∙ length_put s at (zeros q) at_in

  to_in : to + length d ≤ length t
  to_in = omega (arith, lt, R.room, R.width)

  pub data_put : (v : List ℕ) → v ≡ image_of q (revisions_in u q) (columns_in u q) (parities_in u q) → v ≡ unset d s q
  data_put v e =
      let l = R.room in
      let w = R.width in
      let z = lz in
      let z2 = lt in
      let r : revisions_in u q ≡ zeros q =
      ap (λ (x : List ℕ). revisions_in x q) e2 ∙ part_apart t to d to_in (revision_at 0) (4 * q.k) (omega arith) (inl (omega arith))
      ∙ ap (λ (x : List ℕ). revisions_in x q) e1 ∙ ap₂ (λ (x y : ℕ). part (put s at (zeros q)) x y) (sym at_is) (sym lz) ∙ part_put s at (zeros q) at_in in
      let c : columns_in u q ≡ d =
      ap (λ (x : List ℕ). columns_in x q) e2 ∙ ap₂ (λ (x y : ℕ). part (put t to d) x y) (omega arith) (sym w) ∙ part_put t to d to_in in
      let p : parities_in u q ≡ parities_in s q =
      ap (λ (x : List ℕ). parities_in x q) e2 ∙ part_apart t to d to_in (parity_from q) (q.r * column_length q) (omega arith) (inr (omega arith))
      ∙ ap (λ (x : List ℕ). parities_in x q) e1 ∙ part_apart s at (zeros q) at_in (parity_from q) (q.r * column_length q) (omega arith) (inr (omega arith)) in
      e ∙ ap₂ (λ (x y : List ℕ). image_of q x y (parities_in u q)) r c ∙ ap (image_of q (zeros q) d) p

-- ---- the image of the data

module _ (d c : List ℕ) (q : Params) (A : Admitted q) (w : length d ≡ q.k * column_length q) (l : length c ≡ q.r * column_length q) where
  t : List ℕ
  t = image_of q (zeros q) d c

  pub head_image : Image (image_of q (zeros q) d c) q
  head_image = image_of_image q (zeros q) d c (length_zeros q) w l A

  -- the data stand where an image has them
  pub head_data : (i u x : ℕ) → i < q.k → u < rows q → x < q.b → data_byte (image_of q (zeros q) d c) q i u x ≡ given d q i u x
  head_data i u x h k g =
      let o : ℕ = i * column_length q + u * q.b + x in
      let y : strip_at q i u + x ≡ data_from q + o = omega arith in
      ap (λ (m : ℕ). get_or (image_of q (zeros q) d c) m 0) y ∙ of_columns q (zeros q) d c (length_zeros q) w l o (omega (arith, strip_in q i u h k))

  -- parity from the data in the image is parity from the data
  due_given : (o : ℕ) → due_at q (data_byte t q) o ≡ due_at q (given d q) o
  unfolding due_at t
  due_given o =
      let C : ℕ = column_length q in
      let some : 0 < q.b = omega (arith, A.b_low) in
      due_agree q (data_byte t q) (given d q) (o / C) (o % C / q.b) (o % C % q.b) (λ i u h k. head_data i u (o % C % q.b) h k (mod-lt (o % C) some))

  pub head_refilled : refilled (image_of q (zeros q) d c) q ≡ made q d
  unfolding refilled patch made t
  head_refilled =
      let n : ℕ = q.r * column_length q in
      let F : ℕ → ℕ = due_at q (given d q) in
      ap (λ (v : List ℕ). put t (parity_from q) v) (ap (tab n) (fun_ext due_given))
      ∙ parities_put q (zeros q) d c (tab n F) (length_zeros q) w (length_tab n F ∙ sym l)
