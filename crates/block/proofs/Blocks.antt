-- What putting parity in its place, and checking it, owes in one block of lanes.
-- Assumes nothing.
use Prim.Native.Nat.{ℕ, suc, ◌+◌, ◌-◌, ◌*◌, ◌%◌, ◌<◌, ◌≤◌}
use mathlib.Core.List.{List}
use mathlib.Core.Logic.{◌≢◌, inl, inr}
use mathlib.Core.Path.{◌≡◌, ap, ◌∙◌, fun_ext, subst, sym, ap₂}
use native.Mathlib.Decide.{ℕ_discrete}
use native.Mathlib.Nat.{mul-le-mul, le_refl}
use native.Mathlib.Omega.{arith}
use lib.Dec.{T}
use lib.ListN.{get_or, length}
use Rattle.laws.proofs.Sum.{sum_all}
use Rattle.laws.specs.Part.{Clear, row_byte}
use Rattle.laws.specs.Sum.{sum}
use Rattle.laws.specs.Xor.{◌⊕◌}
use Rattle.algebra.proofs.Walk.{walks_parity}
use Rattle.algebra.specs.Column.{lane}
use Rattle.algebra.specs.Divide.{over}
use Rattle.algebra.specs.Prime.{odd_prime, Modulus}
use Rattle.stripe.proofs.Places.{parity_column_in, parity_strips_apart}
use Rattle.stripe.specs.Layout.{rows, data_at, strip_at, data_byte, column_length, parity_at, parity_byte, parity_strip_at}
use Rattle.stripe.specs.Params.{Admitted}
use Rattle.stripe.specs.declared.Params.{Params}
use Rattle.walk.specs.Lanes.{symbols, Sums, sum_found, found, WalkAsked, ColumnsAsked}
use Rattle.quotient.specs.Lanes.{finished, FinishAsked, Laid, Shows, Stand}
use Rattle.block.specs.Inner.{BlockAsked, BlockFilled, LanesRight}
use Rattle.block.specs.Parity.{due}

-- ---- the walks' quotient is the parity that is due

p_is : (q : Params) → Admitted q → q.p ≡ suc (rows q)
p_is q a = omega (arith, a.p_low)

module _ (s acc : List ℕ) (q : Params) (j l w : ℕ) (A : BlockAsked s acc q j l w) where
  same_symbols : (i y : ℕ) → symbols s (data_at q 0 + l + i * (rows q * q.b)) q.b y ≡ (λ u. data_byte s q i u (l + y))
  unfolding symbols
  same_symbols i y = fun_ext (λ u. let z : data_at q 0 + l + i * (rows q * q.b) + u * q.b + y ≡ strip_at q i u + (l + y) = omega arith in ap (λ (o : ℕ). get_or s o 0) z)

  finished_due : (acc' : List ℕ) → Sums s acc' (data_at q 0 + l) q.p q.b (q.r - j) w q.k → (u y : ℕ) → y < w → finished acc' q.p w j u y ≡ due q (data_byte s q) j u (l + y)
  unfolding finished sum_found found due
  finished_due acc' S u y h =
      let n : ℕ = rows q in
      let z : q.p ≡ suc n = p_is q A.image.admitted in
      let g : ℕ → ℕ = λ v. row_byte acc' w v y in
      ap (λ (p : ℕ). g ((u + j) % p) ⊕ sum p g) z
      ∙ walks_parity n (subst (λ (p : ℕ). T (odd_prime p)) z A.image.admitted.prime) q.r j q.k A.column (omega (arith, A.image.admitted.fits))
      (λ i. symbols s (data_at q 0 + l + i * (n * q.b)) q.b y) g (λ v k. S.bytes v y (omega arith) h) u
      ∙ sum_all q.k (λ i. ap (λ (f : ℕ → ℕ). over n j (q.r + i) (lane n f) u) (same_symbols i y))

modulus_is : (q : Params) → Admitted q → Modulus q.p
modulus_is q a = record { small = a.p_high; prime = a.prime }

-- ---- one block

module _ (s acc₀ : List ℕ) (q : Params) (j l w da : ℕ) (A : BlockAsked s acc₀ q j l w) (e : da ≡ data_at q 0) where
  data_inside : da + l + q.k * (rows q * q.b) + w ≤ length s + q.b
  data_inside = omega (arith, A.image.len, A.within)

  one_column : column_length q ≤ q.k * column_length q
  one_column = omega (arith, mul-le-mul {n₁ = 1} {m₁ = column_length q} {n₂ = q.k} {m₂ = column_length q} A.image.admitted.k_low (le_refl (column_length q)))

  pub first_asked : WalkAsked s acc₀ (da + l) q.p q.b (q.r - j) w
  first_asked = record {
    modulus = modulus_is q A.image.admitted;
    low = omega (arith, A.column);
    high = omega (arith, A.image.admitted.fits, A.image.admitted.k_low);
    strip = A.image.admitted.b_high;
    lanes = A.lanes;
    inside = omega (arith, data_inside, one_column);
    room = A.room;
  }

  pub columns_asked : (acc : List ℕ) → length acc ≡ length acc₀ → Sums s acc (da + l) q.p q.b (q.r - j) w 1 → ColumnsAsked s acc (da + l) q.p q.k q.b (q.r - j) w
  columns_asked acc g S = record {
    modulus = modulus_is q A.image.admitted;
    some = A.image.admitted.k_low;
    low = omega (arith, A.column);
    high = omega (arith, A.image.admitted.fits);
    strip = A.image.admitted.b_high;
    lanes = A.lanes;
    inside = data_inside;
    room = omega (arith, A.room);
    begun = S;
  }

module _ (s acc₀ : List ℕ) (q : Params) (j l w : ℕ) (A : BlockAsked s acc₀ q j l w) where
  module _ (pa : ℕ) (f : pa ≡ parity_at q j) where
    -- lane x of row u, by the place in the block
    lane_at : (t : List ℕ) (u x : ℕ) → l ≤ x → parity_byte t q j u x ≡ get_or t (pa + l + u * q.b + (x - l)) 0
    lane_at t u x h = let z : parity_strip_at q j u + x ≡ pa + l + u * q.b + (x - l) = omega arith in ap (λ (o : ℕ). get_or t o 0) z

    lane_due : (acc : List ℕ) → Sums s acc (data_at q 0 + l) q.p q.b (q.r - j) w q.k → (u x : ℕ) → l ≤ x → x < l + w → finished acc q.p w j u (x - l) ≡ due q (data_byte s q) j u x
    lane_due acc S u x h k =
        let z : l + (x - l) ≡ x = omega arith in
        finished_due s acc₀ q j l w A acc S u (x - l) (omega arith) ∙ ap (due q (data_byte s q) j u) z

    -- a byte of the block lies in lane and row, and in no other
    other_byte : (i u x : ℕ) → u < rows q → x < q.b → (i ≡ j → l ≤ x → x < l + w → ⊥) → (t y : ℕ) → t < rows q → y < w → parity_strip_at q i u + x ≢ pa + l + t * q.b + y
    other_byte i u x h k out t y g m z =
        elim (ℕ_discrete i j) [
          | yes c ↦
              elim (ℕ_discrete u t) [
                | yes d ↦
                    let r : parity_strip_at q i u ≡ parity_strip_at q j t = ap₂ (λ (a b : ℕ). parity_strip_at q a b) c d in
                    absurd (out c (omega arith) (omega arith))
                | no d ↦ absurd (apart z (parity_strips_apart q i u j t h g (λ c. d)))
              ]
          | no c ↦ absurd (apart z (parity_strips_apart q i u j t h g (λ d. absurd (c d))))
        ]
      where
        apart : parity_strip_at q i u + x ≡ pa + l + t * q.b + y → Clear (parity_strip_at q i u) q.b (parity_strip_at q j t) q.b → ⊥
        apart z (inl a) = omega (arith, A.within)
        apart z (inr a) = omega (arith, A.within)

    pub block_filled : (acc t : List ℕ) → Sums s acc (data_at q 0 + l) q.p q.b (q.r - j) w q.k → Laid s t (pa + l) (q.p - 1) q.b w (finished acc q.p w j)
        → BlockFilled s t q j l (l + w)
    block_filled acc t S L = record {
      len = L.len;
      head = λ o h. L.rest o (λ u y k m z. absurd (omega arith));
      lanes = λ u x h k m. lane_at t u x k ∙ L.rows.bytes u (x - l) h (omega arith) ∙ lane_due acc S u x k m;
      rest = λ i u x h k out. L.rest (parity_strip_at q i u + x) (other_byte i u x h k out);
    }

    pub block_shown : (acc : List ℕ) (bad r : ℕ) → Sums s acc (data_at q 0 + l) q.p q.b (q.r - j) w q.k
        → Shows bad r (Stand s (pa + l) (q.p - 1) q.b w (finished acc q.p w j)) → Shows bad r (LanesRight s q j l (l + w))
    block_shown acc bad r S C = record {
      clean = λ h R. C.clean h (record { bytes = λ u y k m. byte u y (R.bytes u (l + y) k (omega arith) (omega arith) (omega (arith, A.within))) m });
      told = λ h. let c = C.told h in (c.0, record { bytes = λ u x k a m g. lane_at s u x a ∙ c.1.bytes u (x - l) k (omega arith) ∙ lane_due acc S u x a m });
    }
      where
        byte : (u y : ℕ) → parity_byte s q j u (l + y) ≡ due q (data_byte s q) j u (l + y) → y < w → get_or s (pa + l + u * q.b + y) 0 ≡ finished acc q.p w j u y
        byte u y d m =
            let z : pa + l + u * q.b + y ≡ parity_strip_at q j u + (l + y) = omega arith in
            ap (λ (o : ℕ). get_or s o 0) z ∙ d ∙ sym (finished_due s acc₀ q j l w A acc S u y m)

-- a quotient's rows are put, or compared, from any place that is no higher than j
pub finish_asked : (s acc₀ acc : List ℕ) (q : Params) (j l w pa z : ℕ) → BlockAsked s acc₀ q j l w → z ≤ j → pa ≡ parity_at q j → q.p * w ≤ length acc
    → FinishAsked s acc (pa + l) q.p q.b z w
finish_asked s acc₀ acc q j l w pa z A h f g = record {
  modulus = modulus_is q A.image.admitted;
  shift = omega (arith, A.column, A.image.admitted.fits);
  strip = A.image.admitted.b_high;
  fits = omega (arith, A.within);
  lanes = A.lanes;
  inside = omega (arith, A.image.len, A.within, parity_column_in q j A.column);
  room = g;
}
