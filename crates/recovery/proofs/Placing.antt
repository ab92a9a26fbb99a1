-- Where the columns start that lost ones are found from: as many as there are data columns, each in the image, with a word for each.
-- Assumes nothing.
use Prim.Native.Nat.{ℕ, zero, suc, ◌+◌, ◌-◌, ◌<◌, ◌≤◌}
use mathlib.Core.Bool.{Bool}
use mathlib.Core.List.{List, [], ◌∷◌, ◌++◌, map, map-append}
use mathlib.Core.Path.{◌≡◌, refl, sym, ap, ap₂, ◌∙◌}
use native.Mathlib.Omega.{arith}
use lib.ListN.{length, get_or, set, length-map}
use borrow.Author.Tests.{le-ltb, lt-ltb}
use Rattle.laws.proofs.Patch.{patch_all, patch_end, patch_front, patch_none}
use Rattle.laws.proofs.Tab.{map_at}
use Rattle.laws.specs.Choose.{choose}
use Rattle.laws.specs.Patch.{Patched}
use Rattle.algebra.specs.Recovery.{Rising}
use Rattle.stripe.specs.Layout.{data_at, parity_at}
use Rattle.stripe.specs.declared.Params.{Params}
use Rattle.pattern.proofs.Count.{consulted_rising, present_rising, rising_at}
use Rattle.pattern.specs.Inner.{Repairable}
use Rattle.pattern.specs.Pattern.{consulted, present_exponents}
use Rattle.recovery.specs.Inner.{Placeable}
use Rattle.recovery.specs.Words.{place_of, places, sources}

-- ---- the loop

unfoldable pub place_at : Params → List ℕ → ℕ → ℕ
place_at q s i = place_of q (get_or s i 0)

module _ (q : Params) (s t : List ℕ) (i : ℕ) (E : Placeable q s) (d : Patched s t 0 i (place_at q s)) where
  same : get_or t i 0 ≡ get_or s i 0
  same = d.above i (omega arith)

  pub exponent_low : i < length s → get_or t i 0 < q.k + q.r
  exponent_low h = rw same (E.low i (omega (arith, d.len)))

  pub place_more : (v : ℕ) → i < length s → v ≡ place_of q (get_or t i 0) → Patched s (set t i v) 0 (i + 1) (place_at q s)
  unfolding place_at
  place_more v h e = patch_front s t i (place_at q s) v d (omega (arith, d.len)) (e ∙ ap (place_of q) same)

  pub place_end : i ≤ length s → length s ≤ i → t ≡ map (place_of q) s
  unfolding place_at
  place_end h k =
      patch_all s t (map (place_of q) s) (place_at q s) (patch_end s t 0 i (length s) (place_at q s) d (omega (arith, d.len)) (omega (arith, d.len)))
      (length-map s (place_of q)) (λ j l. sym (map_at (place_of q) s 0 j l))

pub ruleset placing = (patch_none, exponent_low, place_more, place_end)

-- ---- places

module _ (q : Params) (x n : ℕ) where
  pub place_parity : x < q.r → n ≡ parity_at q x → n ≡ place_of q x
  unfolding place_of
  place_parity h e = e ∙ sym (ap (λ (b : Bool). choose b (parity_at q x) (data_at q (x - q.r))) (lt-ltb x q.r h))

  pub place_data : q.r ≤ x → n ≡ data_at q (x - q.r) → n ≡ place_of q x
  unfolding place_of
  place_data h e = e ∙ sym (ap (λ (b : Bool). choose b (parity_at q x) (data_at q (x - q.r))) (le-ltb x q.r h))

pub ruleset placed = (place_parity, place_data)

-- what holds of each place of two lists holds of each place of both
pub append_each : (P : ℕ → Type 0) (k l : List ℕ) → ((v : ℕ) → v < length k → P (get_or k v 0)) → ((v : ℕ) → v < length l → P (get_or l v 0))
    → (v : ℕ) → v < length (k ++ l) → P (get_or (k ++ l) v 0)
append_each P [] l g h v i = h v i
append_each P (a ∷ k) l g h zero i = g 0 (omega arith)
append_each P (a ∷ k) l g h (suc v) i = append_each P k l (λ v j. g (suc v) (omega arith)) h v (omega arith)

module _ (q : Params) (m : ℕ) where
  pub sources_placeable : (s : List ℕ) → Repairable q m → s ≡ sources q m → Placeable q s
  unfolding sources
  sources_placeable s R e =
      rw e (record {
        admitted = R.admitted;
        low = append_each (λ (x : ℕ). x < q.k + q.r) (consulted q m) (present_exponents q m)
            (λ v h. omega (arith, (rising_at 0 q.r (consulted q m) (consulted_rising q m) v h).1))
            (λ v h. omega (arith, (rising_at q.r (q.r + q.k) (present_exponents q m) (present_rising q m) v h).1));
      })

  pub places_are : (s t : List ℕ) → s ≡ sources q m → t ≡ map (place_of q) s → t ≡ places q m
  unfolding sources places
  places_are s t e f =
      f ∙ ap (map (place_of q)) e ∙ map-append (place_of q) (consulted q m) (present_exponents q m)
      ∙ ap₂ ◌++◌ (parities (consulted q m) 0 (consulted_rising q m)) (columns (present_exponents q m) q.r (omega arith) (present_rising q m))
    where
      parities : (l : List ℕ) (lo : ℕ) → Rising lo q.r l → map (place_of q) l ≡ map (parity_at q) l
      parities [] lo r = refl
      parities (x ∷ l) lo r = ap₂ ◌∷◌ (sym (place_parity q x (parity_at q x) r.1 refl)) (parities l (suc x) r.2)

      columns : (l : List ℕ) (lo : ℕ) → q.r ≤ lo → Rising lo (q.r + q.k) l → map (place_of q) l ≡ map (λ (z : ℕ). data_at q (z - q.r)) l
      columns [] lo h r = refl
      columns (x ∷ l) lo h r = ap₂ ◌∷◌ (sym (place_data q x (data_at q (x - q.r)) (omega arith) refl)) (columns l (suc x) (omega arith) r.2)

pub ruleset placings = (sources_placeable, places_are)
