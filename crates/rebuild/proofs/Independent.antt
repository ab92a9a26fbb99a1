-- "What lost columns held at entry affects nothing.": the rebuilt image depends on what is present only.
-- Assumes nothing.
use Prim.Native.Nat.{ℕ, ◌+◌, ◌<◌, ◌≤◌, ◌-◌}
use mathlib.Core.Bool.{Bool, true, false}
use mathlib.Core.List.{List, map}
use mathlib.Core.Path.{◌≡◌, sym, ap, ap₂, ◌∙◌, refl}
use native.Mathlib.Decide.{dec_lt}
use native.Mathlib.Omega.{arith}
use lib.ListN.{get_or, take}
use borrow.Author.Tests.{lt-ltb, le-ltb}
use Rattle.laws.proofs.Tab.{map_table}
use Rattle.laws.specs.Bit.{weight}
use Rattle.laws.specs.Choose.{choose}
use Rattle.laws.specs.Part.{table}
use Rattle.algebra.specs.Code.{none, decode}
use Rattle.algebra.specs.Column.{lane}
use Rattle.algebra.specs.Recovery.{freed, kept}
use Rattle.stripe.proofs.Frame.{image_same}
use Rattle.stripe.specs.Layout.{rows, data_byte, parity_byte}
use Rattle.stripe.specs.Reading.{Image}
use Rattle.stripe.specs.declared.Params.{Params}
use Rattle.block.proofs.Touching.{lane_ext, due_agree}
use Rattle.block.specs.Parity.{due}
use Rattle.rebuild.proofs.Cells.{is_rebuilt, rebuilt_length, rebuilt_front, rebuilt_count, rebuilt_data, rebuilt_parity}
use Rattle.pattern.proofs.Marks.{map_take, map_kept, kept_ext}
use Rattle.rebuild.proofs.Whole.{whole_data_present, whole_parity_present}
use Rattle.rebuild.specs.Agrees.{AgreesOutside}
use Rattle.rebuild.specs.Lost.{consulted_lanes, present_lanes, recovered, whole_data, whole_parity, whole_byte, rebuilt}
use Rattle.pattern.specs.Pattern.{is_lost, parity_marks, lost_count, lost_exponents, present_exponents, consulted}

-- a list over the consulted columns is taken from one over the present parity columns
consulted_map : {A : Type 0} (F : ℕ → A) (q : Params) (m : ℕ) → map F (consulted q m) ≡ take (lost_count q m) (kept (parity_marks q m) (table q.r F))
unfolding consulted
consulted_map F q m =
    map_take F (lost_count q m) (kept (parity_marks q m) (table q.r (λ j. j)))
    ∙ ap (take (lost_count q m)) (map_kept F (parity_marks q m) (table q.r (λ j. j)) ∙ ap (kept (parity_marks q m)) (map_table F q.r (λ j. j)))

module _ (s u : List ℕ) (q : Params) (m : ℕ) (g : AgreesOutside s u q m) where
  module _ (x : ℕ) (h : x < q.b) where
    consulted_agree : consulted_lanes s q m x ≡ consulted_lanes u q m x
    unfolding consulted_lanes
    consulted_agree =
        let S : ℕ → ℕ → ℕ = λ j. lane (rows q) (λ t. parity_byte s q j t x) in
        let U : ℕ → ℕ → ℕ = λ j. lane (rows q) (λ t. parity_byte u q j t x) in
        consulted_map S q m
        ∙ ap (take (lost_count q m)) (kept_ext q.r (λ j. is_lost m (q.k + j)) S U (λ j l e.
        lane_ext (rows q) (λ t. parity_byte s q j t x) (λ t. parity_byte u q j t x) (λ t k. sym (g.parity_there j t x l k h e))))
        ∙ sym (consulted_map U q m)

    present_agree : present_lanes s q m x ≡ present_lanes u q m x
    unfolding present_lanes
    present_agree =
        kept_ext q.k (is_lost m) (λ i. lane (rows q) (λ t. data_byte s q i t x)) (λ i. lane (rows q) (λ t. data_byte u q i t x))
        (λ i l e. lane_ext (rows q) (λ t. data_byte s q i t x) (λ t. data_byte u q i t x) (λ t k. sym (g.data_there i t x l k h e)))

    pub recovered_agrees : recovered s q m x ≡ recovered u q m x
    unfolding recovered
    recovered_agrees =
        ap₂ (λ (C S : List (ℕ → ℕ)). decode (rows q) (consulted q m) (lost_exponents q m) (freed (rows q) (consulted q m) C (present_exponents q m) S))
        consulted_agree present_agree

    pub whole_data_agrees : (i t : ℕ) → i < q.k → t < rows q → whole_data s q m i t x ≡ whole_data u q m i t x
    unfolding whole_data
    whole_data_agrees i t l k = go (is_lost m i) refl
      where
        go : (b : Bool) → is_lost m i ≡ b
            → choose b (get_or (recovered s q m x) (weight m i) none t) (data_byte s q i t x) ≡ choose b (get_or (recovered u q m x) (weight m i) none t) (data_byte u q i t x)
        go true e = ap (λ (r : List (ℕ → ℕ)). get_or r (weight m i) none t) recovered_agrees
        go false e = sym (g.data_there i t x l k h e)

    pub whole_parity_agrees : (j t : ℕ) → j < q.r → t < rows q → whole_parity s q m j t x ≡ whole_parity u q m j t x
    unfolding whole_parity
    whole_parity_agrees j t l k = go (is_lost m (q.k + j)) refl
      where
        go : (b : Bool) → is_lost m (q.k + j) ≡ b
            → choose b (due q (whole_data s q m) j t x) (parity_byte s q j t x) ≡ choose b (due q (whole_data u q m) j t x) (parity_byte u q j t x)
        go true e = due_agree q (whole_data s q m) (whole_data u q m) j t x whole_data_agrees
        go false e = sym (g.parity_there j t x l k h e)

    pub whole_byte_agrees : (n t : ℕ) → n < q.k + q.r → t < rows q → whole_byte s q m n t x ≡ whole_byte u q m n t x
    unfolding whole_byte
    whole_byte_agrees n t l k = go (dec_lt n q.k)
      where
        go : Dec (n < q.k) → whole_byte s q m n t x ≡ whole_byte u q m n t x
        go (yes c) = rw (lt-ltb n q.k c) (whole_data_agrees n t c k)
        go (no c) =
            let e : q.k ≤ n = omega arith in
            rw (le-ltb n q.k e) (whole_parity_agrees (n - q.k) t (omega arith) k)

  -- "without use of what the lost columns held"
  pub rebuilt_agrees : Image s q → rebuilt s q m ≡ rebuilt u q m
  rebuilt_agrees i =
      is_rebuilt u q m (g.len ∙ i.len) (rebuilt s q m) i.admitted (rebuilt_length s q m i.len ∙ sym g.len)
      (λ o h. rebuilt_front s q m i.len o h ∙ sym (g.front o h))
      (λ o h k. rebuilt_count s q m i.len o h k ∙ sym (g.count o h k))
      (λ c t x h k l. rebuilt_data s q m i.len c t x h k l ∙ whole_data_agrees x l c t h k)
      (λ j t x h k l. rebuilt_parity s q m i.len j t x h k l ∙ whole_parity_agrees x l j t h k)

  -- an image that differs from an accepted one in lost columns only is accepted
  pub agrees_image : Image s q → Image u q
  agrees_image i = image_same s u q i g.len (λ o h. g.front o (omega arith)) (λ o h k. g.front o k) g.count

-- "Present bytes and all revisions stay."
pub rebuilt_keeps : (s : List ℕ) (q : Params) (m : ℕ) → Image s q → AgreesOutside s (rebuilt s q m) q m
rebuilt_keeps s q m i = record {
  len = rebuilt_length s q m i.len;
  front = rebuilt_front s q m i.len;
  count = rebuilt_count s q m i.len;
  data_there = λ c t x h k l e. rebuilt_data s q m i.len c t x h k l ∙ whole_data_present s q m c t x e;
  parity_there = λ j t x h k l e. rebuilt_parity s q m i.len j t x h k l ∙ whole_parity_present s q m j t x e;
}
