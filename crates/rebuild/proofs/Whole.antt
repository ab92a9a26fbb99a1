-- The lanes that rebuilding consults, those that it recovers, and the whole data that they make.
-- Assumes nothing.
use Prim.Native.Nat.{ℕ, ◌+◌}
use mathlib.Core.Bool.{Bool, false}
use mathlib.Core.List.{List}
use mathlib.Core.Path.{◌≡◌, sym, ap, ap₂, ◌∙◌}
use lib.Dec.{T}
use lib.ListN.{length, length-map, get_or}
use Rattle.laws.specs.Bit.{weight}
use Rattle.laws.proofs.Tab.{length_table}
use Rattle.laws.specs.Choose.{choose}
use Rattle.laws.specs.Part.{table}
use Rattle.laws.specs.Xor.{◌⊕◌}
use Rattle.algebra.proofs.Lost.{parity_split, same_length}
use Rattle.algebra.proofs.Stored.{decode_good, length_decode}
use Rattle.algebra.specs.Cauchy.{row}
use Rattle.algebra.specs.Code.{All, plus, none}
use Rattle.algebra.specs.Column.{lane}
use Rattle.algebra.specs.Divide.{over}
use Rattle.algebra.specs.Lane.{D}
use Rattle.algebra.specs.Recovery.{freed, kept, lost}
use Rattle.stripe.specs.Layout.{rows, data_byte, parity_byte}
use Rattle.stripe.specs.declared.Params.{Params}
use Rattle.block.specs.Parity.{due}
use Rattle.pattern.proofs.Count.{weight_mark, weight_none, length_lost, length_consulted}
use Rattle.rebuild.proofs.Decoded.{good_map, good_kept, good_table, good_at, lane_good, lane_self, freed_good, length_freed, sum_row}
use Rattle.pattern.proofs.Marks.{kept_ext, lost_filled}
use Rattle.pattern.specs.Pattern.{few_lost, is_lost, lost_marks, lost_count, data_exponents, lost_exponents, present_exponents, consulted}
use Rattle.rebuild.specs.Lost.{consulted_lanes, present_lanes, recovered, whole_data, whole_parity}

-- "Present bytes .. stay."
pub whole_data_present : (s : List ℕ) (q : Params) (m i t x : ℕ) → is_lost m i ≡ false → whole_data s q m i t x ≡ data_byte s q i t x
unfolding whole_data
whole_data_present s q m i t x e = rw e

pub whole_parity_present : (s : List ℕ) (q : Params) (m j t x : ℕ) → is_lost m (q.k + j) ≡ false → whole_parity s q m j t x ≡ parity_byte s q j t x
unfolding whole_parity
whole_parity_present s q m j t x e = rw e

module _ (s : List ℕ) (q : Params) (m x : ℕ) where
  pub consulted_good : All (rows q) (consulted_lanes s q m x)
  unfolding consulted_lanes
  consulted_good = good_map (rows q) (λ j. lane (rows q) (λ t. parity_byte s q j t x)) (consulted q m) (λ j. lane_good (rows q) (λ t. parity_byte s q j t x))

  pub present_good : All (rows q) (present_lanes s q m x)
  unfolding present_lanes
  present_good =
      good_kept (rows q) (lost_marks q m) (table q.k (λ i. lane (rows q) (λ t. data_byte s q i t x)))
      (good_table (rows q) q.k (λ i. lane (rows q) (λ t. data_byte s q i t x)) (λ i. lane_good (rows q) (λ t. data_byte s q i t x)))

  pub length_consulted_lanes : length (consulted_lanes s q m x) ≡ length (consulted q m)
  unfolding consulted_lanes
  length_consulted_lanes = length-map (consulted q m) (λ j. lane (rows q) (λ t. parity_byte s q j t x))

  pub recovered_good : All (rows q) (recovered s q m x)
  unfolding recovered
  recovered_good =
      decode_good (rows q) (consulted q m) (lost_exponents q m)
      (freed (rows q) (consulted q m) (consulted_lanes s q m x) (present_exponents q m) (present_lanes s q m x))
      (freed_good (rows q) (consulted q m) (consulted_lanes s q m x) (present_exponents q m) (present_lanes s q m x) consulted_good present_good)

  -- the polynomials of byte x of the present data, where the whole data have them
  pub whole_kept : kept (lost_marks q m) (table q.k (λ i. lane (rows q) (λ t. whole_data s q m i t x))) ≡ present_lanes s q m x
  unfolding present_lanes whole_data
  whole_kept =
      kept_ext q.k (is_lost m) (λ i. lane (rows q) (λ t. whole_data s q m i t x)) (λ i. lane (rows q) (λ t. data_byte s q i t x))
      (λ i h e. ap (λ (b : Bool). lane (rows q) (λ t. choose b (get_or (recovered s q m x) (weight m i) none t) (data_byte s q i t x))) e)

  module _ (f : T (few_lost q m)) where
    pub length_recovered : length (recovered s q m x) ≡ lost_count q m
    unfolding recovered
    length_recovered =
        length_decode (rows q) (consulted q m) (lost_exponents q m)
        (freed (rows q) (consulted q m) (consulted_lanes s q m x) (present_exponents q m) (present_lanes s q m x))
        (length_lost q m ∙ sym (length_consulted q m f))
        (length_freed (rows q) (consulted q m) (consulted_lanes s q m x) (present_exponents q m) (present_lanes s q m x) length_consulted_lanes)
        ∙ length_consulted q m f

    -- and those of the lost data
    pub whole_lost : lost (lost_marks q m) (table q.k (λ i. lane (rows q) (λ t. whole_data s q m i t x))) ≡ recovered s q m x
    unfolding whole_data
    whole_lost =
        lost_filled q.k (is_lost m) (λ i. lane (rows q) (λ t. whole_data s q m i t x)) (recovered s q m x) none (weight m) (weight_mark m) (weight_none m) length_recovered
        (λ i h e.
        ap (λ (b : Bool). lane (rows q) (λ t. choose b (get_or (recovered s q m x) (weight m i) none t) (data_byte s q i t x))) e
        ∙ lane_self (rows q) (get_or (recovered s q m x) (weight m i) none) (good_at (rows q) (recovered s q m x) recovered_good (weight m i)))

    -- a parity of the whole data is that of the recovered and that of the present data
    pub whole_due : (j t : ℕ)
        → due q (whole_data s q m) j t x
        ≡ row plus none (D (rows q)) (over (rows q)) j (lost_exponents q m) (recovered s q m x) t
        ⊕ row plus none (D (rows q)) (over (rows q)) j (present_exponents q m) (present_lanes s q m x) t
    unfolding due lost_exponents present_exponents
    whole_due j t =
        let n : ℕ = rows q in
        let L : ℕ → ℕ → ℕ = λ i. lane n (λ u. whole_data s q m i u x) in
        sum_row n j q.k (λ i. q.r + i) L t
        ∙ parity_split n j (lost_marks q m) (data_exponents q) (table q.k L)
        (same_length (data_exponents q) (table q.k L) (length_table q.k (λ i. q.r + i) ∙ sym (length_table q.k L))) t
        ∙ ap₂ ◌⊕◌
        (ap (λ (l : List (ℕ → ℕ)). row plus none (D n) (over n) j (lost_exponents q m) l t) whole_lost)
        (ap (λ (l : List (ℕ → ℕ)). row plus none (D n) (over n) j (present_exponents q m) l t) whole_kept)
