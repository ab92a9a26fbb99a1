-- The rows of the recovery matrix, and that of a parity column, as solutions of the transposed system.
-- Assumes nothing.
use Prim.Native.Nat.{ℕ, zero, suc, ◌+◌, ◌-◌, ◌*◌, ◌%◌, ◌^◌, ◌<◌, ◌≤◌}
use mathlib.Core.List.{List, [], ◌∷◌, map}
use mathlib.Core.Path.{◌≡◌, refl, sym, ap, ap₂, ◌∙◌}
use native.Mathlib.Nat.{mod-eq_of_lt}
use native.Mathlib.Omega.{arith}
use lib.Bits.{bit_xor}
use lib.ListN.{length, get_or, set, replicate, length-map, length-replicate}
use lib.Pow.{pow_pos, pow_mono}
use Rattle.laws.proofs.Patch.{patch_none}
use Rattle.laws.proofs.Xor.{zero_⊕}
use Rattle.laws.specs.Patch.{Patched}
use Rattle.laws.specs.Xor.{◌⊕◌}
use Rattle.algebra.proofs.Bounds.{inverse_lt}
use Rattle.algebra.proofs.Prime.{prime_three}
use Rattle.algebra.proofs.Solves.{length_unit}
use Rattle.algebra.proofs.Transposed.{composed_swap, cross_swap, row_swap}
use Rattle.algebra.specs.Cauchy.{Off}
use Rattle.algebra.specs.Lane.{Apart}
use Rattle.algebra.specs.Prime.{Modulus}
use Rattle.algebra.specs.Recovery.{solve_of, unit_of, with}
use Rattle.algebra.specs.Word.{inverse_of, one}
use Rattle.ring.specs.Ring.{Exponents}
use Rattle.solver.proofs.Lists.{words_set, zip, zip_end, zip_more, zip_at}
use Rattle.solver.proofs.Pass.{off_at}
use Rattle.solver.specs.System.{System, Words}
use Rattle.recovery.specs.Inner.{Direct, Solvable}
use Rattle.recovery.specs.Words.{matrix_row, parity_row}

-- ---- the unit vector, where c is the list of zeros

module _ (p : ℕ) (P : Modulus p) where
  top : 1 * 2 ^ p % 2 ^ 64 ≡ 2 ^ p
  top =
      let w : 2 ^ p ≤ 2 ^ 61 = pow_mono P.small in
      let g : 1 * 2 ^ p < 2 ^ 64 = omega arith in
      mod-eq_of_lt g ∙ omega arith

  two : 2 ^ 1 ≤ 2 ^ p
  two = let h : 1 ≤ p = omega (arith, prime_three p P.prime) in pow_mono h

  pub unit_top : 2 ≤ 1 * 2 ^ p % 2 ^ 64
  unit_top = omega (arith, top, two)

  pub unit_is : (s c : List ℕ) (u : ℕ) → c ≡ replicate (length s) 0 → set c u (1 * 2 ^ p % 2 ^ 64 - 2) ≡ unit_of p (length s) u
  unfolding unit_of
  unit_is s c u e = ap₂ (λ (l : List ℕ) (x : ℕ). set l u (x - 2)) e top

pub ruleset units = (unit_top, unit_is)

words_zeros : (p n : ℕ) → Words p (replicate n 0)
words_zeros p zero = tt
words_zeros p (suc n) = (pow_pos p, words_zeros p n)

words_unit : (p n u : ℕ) → Words p (unit_of p n u)
unfolding unit_of
words_unit p n u = words_set p (replicate n 0) u (one p) (words_zeros p n) (omega (arith, pow_pos p))

-- ---- what parity j takes of data columns

unfoldable pub inverse_added : ℕ → ℕ → ℕ → ℕ → ℕ
inverse_added p j z w = w ⊕ inverse_of p j z

zip_with : (p j : ℕ) (zs s : List ℕ) → length zs ≡ length s → zip (inverse_added p j) zs s ≡ with ◌⊕◌ s (map (inverse_of p j) zs)
unfolding inverse_added
zip_with p j [] [] e = refl
zip_with p j [] (w ∷ s) e = absurd (let o : 0 ≡ suc (length s) = e in omega arith)
zip_with p j (z ∷ zs) [] e = refl
zip_with p j (z ∷ zs) (w ∷ s) e = ap (λ (l : List ℕ). (w ⊕ inverse_of p j z) ∷ l) (zip_with p j zs s (omega arith))

module _ (p j : ℕ) (zs s t : List ℕ) (i : ℕ) (D : Direct p j zs s) where
  pub inverse_asked : (f : ℕ → ℕ) → Modulus p → Patched s t 0 i f → i < length s → Exponents p j (get_or zs i 0)
  inverse_asked f P d h = record { modulus = P; apart = off_at p j zs i D.off (omega (arith, D.same, d.len)) }

  pub inverse_more : (v : ℕ) → Patched s t 0 i (zip_at (inverse_added p j) zs s) → i < length s → v ≡ inverse_of p j (get_or zs i 0)
      → Patched s (set t i (bit_xor (get_or t i 0) v)) 0 (i + 1) (zip_at (inverse_added p j) zs s)
  unfolding inverse_added ◌⊕◌
  inverse_more v d h e = zip_more (inverse_added p j) zs s t i (bit_xor (get_or t i 0) v) d h (ap (bit_xor (get_or t i 0)) e)

  pub inverse_end : Patched s t 0 i (zip_at (inverse_added p j) zs s) → i ≤ length s → length s ≤ i → t ≡ with ◌⊕◌ s (map (inverse_of p j) zs)
  inverse_end d h k = zip_end (inverse_added p j) zs s t i d D.same h k ∙ zip_with p j zs s D.same

pub ruleset inverses_added = (patch_none, inverse_asked, inverse_more, inverse_end)

-- ---- the transposed system, for the words w

module _ (p : ℕ) (xs ys s : List ℕ) (E : Solvable p xs ys s) where
  turned : (w : List ℕ) → length w ≡ length s → Words p w → System p ys xs w
  turned w e h = record {
    same_x = E.same_y ∙ sym e;
    same_y = E.same_x ∙ sym e;
    distinct_x = E.distinct_y;
    distinct_y = E.distinct_x;
    cross = cross_swap p xs ys E.cross;
    words = h;
  }

  same : length ys ≡ length xs
  same = E.same_y ∙ sym E.same_x

  module _ (u : ℕ) (w : List ℕ) (e : w ≡ unit_of p (length s) u) where
    pub unit_system : System p ys xs w
    unit_system = rw e (turned (unit_of p (length s) u) (length_unit p (length s) u) (words_unit p (length s) u))

  module _ (j : ℕ) (o : Off (Apart p) j ys) (c : List ℕ) (e : c ≡ replicate (length s) 0) where
    pub lost_direct : Direct p j ys c
    lost_direct = record { same = E.same_y ∙ sym (ap length e ∙ length-replicate {A = ℕ} (length s) 0); off = o }

    module _ (w : List ℕ) (f : w ≡ with ◌⊕◌ c (map (inverse_of p j) ys)) where
      inverses : w ≡ map (inverse_of p j) ys
      inverses = f ∙ ap (λ (l : List ℕ). with ◌⊕◌ l (map (inverse_of p j) ys)) e ∙ with_zeros (map (inverse_of p j) ys) (length s) (length-map ys (inverse_of p j) ∙ E.same_y)
        where
          with_zeros : (l : List ℕ) (n : ℕ) → length l ≡ n → with ◌⊕◌ (replicate n 0) l ≡ l
          with_zeros [] zero e = refl
          with_zeros [] (suc n) e = refl
          with_zeros (x ∷ l) zero e = absurd (let z : suc (length l) ≡ 0 = e in omega arith)
          with_zeros (x ∷ l) (suc n) e = ap₂ ◌∷◌ (zero_⊕ x) (with_zeros l n (omega arith))

      pub inverses_system : System p ys xs w
      inverses_system = rw inverses (turned (map (inverse_of p j) ys) (length-map ys (inverse_of p j) ∙ E.same_y) (low ys))
        where
          low : (l : List ℕ) → Words p (map (inverse_of p j) l)
          low [] = tt
          low (y ∷ l) = (inverse_lt p j y, low l)

-- row u of the matrix is the solution for the unit vector u
pub row_solved : (p : ℕ) (xs ys s : List ℕ) (u : ℕ) (w t : List ℕ) → Modulus p → Solvable p xs ys s → u < length s → w ≡ unit_of p (length s) u → t ≡ solve_of p ys xs w
    → t ≡ matrix_row p xs ys u
unfolding matrix_row
row_solved zero xs ys s u w t P E h e f = absurd (omega (arith, prime_three 0 P.prime))
row_solved (suc n) xs ys s u w t P E h e f =
    f ∙ ap (solve_of (suc n) ys xs) (e ∙ ap (λ (g : ℕ). unit_of (suc n) g u) (sym E.same_y))
    ∙ sym (row_swap n P.small P.prime xs ys (same (suc n) xs ys s E) E.distinct_x E.distinct_y E.cross (length ys) u (sym (same (suc n) xs ys s E)) (omega (arith, E.same_y)))

-- the row of a parity column is the solution for its inverses
pub composed_solved : (p : ℕ) (xs ys s : List ℕ) (j : ℕ) (c w t : List ℕ) → Modulus p → Solvable p xs ys s → Off (Apart p) j ys → c ≡ replicate (length s) 0
    → w ≡ with ◌⊕◌ c (map (inverse_of p j) ys) → t ≡ solve_of p ys xs w → t ≡ parity_row p xs ys j
unfolding parity_row matrix_row
composed_solved zero xs ys s j c w t P E o e f g = absurd (omega (arith, prime_three 0 P.prime))
composed_solved (suc n) xs ys s j c w t P E o e f g =
    g ∙ ap (solve_of (suc n) ys xs) (inverses (suc n) xs ys s E j o c e w f)
    ∙ sym (composed_swap n P.small P.prime xs ys (same (suc n) xs ys s E) E.distinct_x E.distinct_y E.cross j o (length ys) (sym (same (suc n) xs ys s E)))
