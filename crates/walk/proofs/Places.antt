-- What the walk over a column owes: where it stands, what it has found, and the rows that it has come to.
-- Assumes nothing.
use Prim.Native.Nat.{ℕ, suc, ◌+◌, ◌-◌, ◌*◌, ◌%◌, ◌≤◌, ◌<◌}
use mathlib.Core.Bool.{Bool, true, false}
use mathlib.Core.List.{List}
use mathlib.Core.Logic.{◌≢◌}
use mathlib.Core.Path.{◌≡◌, sym, ap, ◌∙◌, refl, subst, ap₂}
use native.Mathlib.Decide.{dec_lt}
use native.Mathlib.Nat.{add-mod_right, mod-eq_of_lt, mod-add-mod, mod-lt, zero-lt-suc, zero-add}
use native.Mathlib.Omega.{arith}
use lib.Dec.{T}
use lib.ListN.{get_or, length, replicate, length-replicate, get_or-replicate}
use Rattle.laws.proofs.Rows.{row_in}
use Rattle.laws.proofs.Sum.{sum_back}
use Rattle.laws.proofs.Xor.{⊕_zero, zero_⊕}
use Rattle.laws.specs.Patch.{Patched}
use Rattle.laws.specs.Sum.{sum}
use Rattle.laws.specs.Xor.{◌⊕◌}
use Rattle.algebra.proofs.Prime.{prime_pred}
use Rattle.algebra.proofs.Walk.{places_differ, place_reached, walked_start, walked_next}
use Rattle.algebra.specs.Column.{lane}
use Rattle.algebra.specs.Prime.{odd_prime, Modulus}
use Rattle.algebra.specs.Walk.{walk_place}
use Rattle.laws.specs.Part.{row_byte}
use borrow.Rule.Slice.PartMut.{mid_of, put_mid}
use Rattle.laws.proofs.Mid.{get_or_mid, length_mid, mid_patched}
use Rattle.laws.proofs.Patch.{patch_by}
use Rattle.walk.specs.Lanes.{kept, found, symbols, WalkAsked, Stepped, Walked, Sums, sum_found, Begun}

-- ---- the places

module _ (p d : ℕ) (M : Modulus p) (low : 1 ≤ d) (high : d < p) where
  p_is : p ≡ suc (p - 1)
  p_is = omega arith

  prime_is : T (odd_prime (suc (p - 1)))
  prime_is = prime_pred p M.prime

  place_start : p - 1 - d ≡ walk_place (p - 1) d 1
  unfolding walk_place
  place_start =
      let n : ℕ = p - 1 in
      let e : n + 1 * (suc n - d) ≡ n - d + suc n = omega arith in
      let l : n - d < suc n = omega arith in
      sym (ap (λ (x : ℕ). x % suc n) e ∙ add-mod_right (n - d) (suc n) ∙ mod-eq_of_lt l)

  place_next : (f f' m : ℕ) → f ≡ walk_place (p - 1) d m → f' ≡ (f + (p - d)) % p → f' ≡ walk_place (p - 1) d (m + 1)
  unfolding walk_place
  place_next f f' m e g =
      let n : ℕ = p - 1 in
      let c : ℕ = suc n - d in
      let z : n + m * c + c ≡ n + (m + 1) * c = omega arith in
      g ∙ ap (λ (x : ℕ). (f + (x - d)) % x) p_is ∙ ap (λ (x : ℕ). (x + c) % suc n) e ∙ mod-add-mod (n + m * c) (suc n) c ∙ ap (λ (x : ℕ). x % suc n) z

  place_below : (m : ℕ) → walk_place (p - 1) d m < p
  unfolding walk_place
  place_below m = omega (arith, mod-lt (p - 1 + m * (suc (p - 1) - d)) (zero-lt-suc (p - 1)))

  places_apart : (i j : ℕ) → i < j → j < i + p → walk_place (p - 1) d i ≢ walk_place (p - 1) d j
  places_apart i j h k = places_differ (p - 1) (omega (arith, M.small)) prime_is d low (omega arith) i j h (omega arith)

  -- the last place is come to last
  place_read : (m : ℕ) → 1 ≤ m → m < p → walk_place (p - 1) d m < p - 1
  unfolding walk_place
  place_read m h k =
      let n : ℕ = p - 1 in
      let z : n + 0 * (suc n - d) ≡ n = omega arith in
      let l : n < suc n = omega arith in
      let ne : walk_place n d m ≢ n = λ e. places_apart 0 m (omega arith) (omega arith) (ap (λ (x : ℕ). x % suc n) z ∙ mod-eq_of_lt l ∙ sym e) in
      omega (arith, place_below m)

  reached : (q : ℕ) → q < p → (i : ℕ) × (1 ≤ i) × (i ≤ p) × (walk_place (p - 1) d i ≡ q)
  reached q l =
      let r = place_reached (p - 1) (omega (arith, M.small)) prime_is d low (omega arith) q (omega arith) in
      (r.0, r.1, omega (arith, r.2), r.3)

-- ---- one row, by its places in the lists

-- byte x of s at a place, added to the running byte
abbrev ran : List ℕ → List ℕ → ℕ → ℕ → ℕ
ran run s at x = get_or run x 0 ⊕ get_or s (at + x) 0

-- w bytes of s at a place, the running bytes, and w bytes of acc at a place
pub record StepAsked (s run acc : List ℕ) (at to w : ℕ) : Type 0 where
  pub inside : at + w ≤ length s
  pub room : to + w ≤ length acc
  pub lanes : w ≤ 128
  pub whole : length run ≡ 128

pub record RowStepped (add : Bool) (s run run' acc acc' : List ℕ) (at to w : ℕ) : Type 0 where
  pub running : Patched run run' 0 w (ran run s at)
  pub given : Patched acc acc' to w (λ x. kept add (get_or acc (to + x) 0) ⊕ ran run s at x)

module _ (s run acc : List ℕ) (at to w k m : ℕ) (A : StepAsked s run acc at to w) (e : k ≡ w) (f : m ≡ w) where
  out_whole : length (mid_of to m acc) ≡ w
  out_whole = length_mid acc to m (omega (arith, A.room)) ∙ f

  pub row_stepped : (add : Bool) (run' out : List ℕ) → Stepped add (mid_of at k s) run run' (mid_of to m acc) out → RowStepped add s run run' acc (put_mid to m acc out) at to w
  row_stepped add run' out S =
      let src : (x : ℕ) → x < w → get_or (mid_of at k s) x 0 ≡ get_or s (at + x) 0 = λ x h. get_or_mid s at k x (omega arith) in
      record {
        running = patch_by run run' 0 w _ (ran run s at) (rw out_whole at S.running) (λ x h. ap (λ (y : ℕ). get_or run x 0 ⊕ y) (src x h));
        given = subst (λ (n : ℕ). Patched acc (put_mid to m acc out) to n (λ x. kept add (get_or acc (to + x) 0) ⊕ ran run s at x)) f
            (mid_patched acc to m out _ _ (omega (arith, A.room)) (rw (out_whole ∙ sym f) at S.given)
            (λ x h. ap₂ (λ (y z : ℕ). kept add y ⊕ (get_or run x 0 ⊕ z)) (get_or_mid acc to m x h) (src x (omega arith))));
      }

-- ---- where the walk stands

pub record At (s run : List ℕ) (base p b d w f m : ℕ) : Type 0 where
  pub first : 1 ≤ m
  pub last : m ≤ p
  pub stands : f ≡ walk_place (p - 1) d m
  pub below : f < p
  pub whole : length run ≡ 128
  pub bytes : (x : ℕ) → x < w → get_or run x 0 ≡ found s base (p - 1) b d x f

found_start : (s : List ℕ) (base n b d x : ℕ) → found s base n b d x (n - d) ≡ 0
unfolding found
found_start s base n b d x = walked_start n d (lane n (symbols s base b x))

module _ (s acc₀ : List ℕ) (base p b d w : ℕ) (A : WalkAsked s acc₀ base p b d w) where
  pub at_start : At s (replicate 128 0) base p b d w (p - 1 - d) 1
  at_start = record {
    first = omega arith;
    last = omega (arith, A.high);
    stands = place_start p d A.modulus A.low A.high;
    below = omega (arith, A.high);
    whole = length-replicate {A = ℕ} 128 0;
    bytes = λ x h. get_or-replicate {A = ℕ} 128 x 0 0 (omega (arith, A.lanes)) ∙ sym (found_start s base (p - 1) b d x);
  }

  module _ (run : List ℕ) (f m : ℕ) (W : At s run base p b d w f m) where
    pub row_read : m < p → f < p - 1
    row_read h = omega (arith, W.stands, place_read p d A.modulus A.low A.high m W.first h)

    pub row_inside : m < p → base + f * b + w ≤ length s
    row_inside h = omega (arith, A.inside, row_in f (p - 1) b (row_read h))

    -- the next walk_place
    module _ (f' : ℕ) (h : m < p) (e : f' ≡ (f + (p - d)) % p) where
      next_stands : f' ≡ walk_place (p - 1) d (m + 1)
      next_stands = place_next p d A.modulus A.low A.high f f' m W.stands e

      next_below_p : f' < p
      next_below_p = omega (arith, next_stands, place_below p d A.modulus A.low A.high (m + 1))

      found_next : (x : ℕ) → found s base (p - 1) b d x f ⊕ get_or s (base + f * b + x) 0 ≡ found s base (p - 1) b d x f'
      unfolding found symbols
      found_next x =
          walked_next (p - 1) (omega (arith, A.modulus.small)) (prime_is p d A.modulus A.low A.high) d A.low (omega (arith, A.high)) (symbols s base b x) f (row_read h)
          ∙ ap (found s base (p - 1) b d x) (sym (e ∙ ap (λ (y : ℕ). (f + (y - d)) % y) (p_is p d A.modulus A.low A.high)))

      ran_found : (x : ℕ) → x < w → ran run s (base + f * b) x ≡ found s base (p - 1) b d x f'
      ran_found x l = ap (λ (y : ℕ). y ⊕ get_or s (base + f * b + x) 0) (W.bytes x l) ∙ found_next x

      pub step_asked : (acc : List ℕ) → length acc ≡ length acc₀ → StepAsked s run acc (base + f * b) (f' * w) w
      step_asked acc g = record { inside = row_inside h; room = omega (arith, A.room, row_in f' p w next_below_p); lanes = A.lanes; whole = W.whole }

      pub at_next : (run' : List ℕ) → Patched run run' 0 w (ran run s (base + f * b)) → At s run' base p b d w f' (m + 1)
      at_next run' c = record {
        first = omega arith;
        last = omega arith;
        stands = next_stands;
        below = next_below_p;
        whole = c.len ∙ W.whole;
        bytes = λ x l. ap (λ (y : ℕ). get_or run' y 0) (sym (zero-add x)) ∙ c.inner x l ∙ ran_found x l;
      }

-- ---- the rows come to

-- a row that was not written
other_row : (acc acc' : List ℕ) (f w q x : ℕ) (g : ℕ → ℕ) → Patched acc acc' (f * w) w g → q ≢ f → x < w → row_byte acc' w q x ≡ row_byte acc w q x
other_row acc acc' f w q x g c ne l = go (dec_lt q f)
  where
    go : Dec (q < f) → row_byte acc' w q x ≡ row_byte acc w q x
    go (yes h) = c.below (q * w + x) (omega (arith, row_in q f w h))
    go (no h) = let k : f < q = omega (arith, ne) in c.above (q * w + x) (omega (arith, row_in f q w k))

-- what the walk found was added to the rows of the first m places, or put there
pub record RowsAdded (add : Bool) (s acc₀ acc : List ℕ) (base p b d w m : ℕ) : Type 0 where
  pub len : length acc ≡ length acc₀
  pub done : (i x : ℕ) → 1 ≤ i → i ≤ m → x < w
      → row_byte acc w (walk_place (p - 1) d i) x ≡ kept add (row_byte acc₀ w (walk_place (p - 1) d i) x) ⊕ found s base (p - 1) b d x (walk_place (p - 1) d i)
  pub rest : (q x : ℕ) → ((i : ℕ) → 1 ≤ i → i ≤ m → walk_place (p - 1) d i ≢ q) → x < w → row_byte acc w q x ≡ row_byte acc₀ w q x

module _ (s acc₀ : List ℕ) (base p b d w : ℕ) (A : WalkAsked s acc₀ base p b d w) where
  found_first : (x : ℕ) → found s base (p - 1) b d x (walk_place (p - 1) d 1) ≡ 0
  found_first x = ap (found s base (p - 1) b d x) (sym (place_start p d A.modulus A.low A.high)) ∙ found_start s base (p - 1) b d x

  pub added_none : (add : Bool) → Begun add acc₀ p d w → RowsAdded add s acc₀ acc₀ base p b d w 1
  added_none add B = record {
    len = refl;
    done = λ i x h k l.
        let e : i ≡ 1 = omega arith in
        let z : row_byte acc₀ w (walk_place (p - 1) d 1) x ≡ kept add (row_byte acc₀ w (walk_place (p - 1) d 1) x) =
        subst (λ (q : ℕ). row_byte acc₀ w q x ≡ kept add (row_byte acc₀ w q x)) (place_start p d A.modulus A.low A.high) (B.stays x l) in
        rw e (z ∙ sym (ap (λ (y : ℕ). kept add (row_byte acc₀ w (walk_place (p - 1) d 1) x) ⊕ y) (found_first x) ∙ ⊕_zero (kept add (row_byte acc₀ w (walk_place (p - 1) d 1) x))));
    rest = λ q x h l. refl;
  }

  module _ (add : Bool) (run acc : List ℕ) (f m f' : ℕ) (W : At s run base p b d w f m) (h : m < p) (e : f' ≡ (f + (p - d)) % p) where
    here : f' ≡ walk_place (p - 1) d (m + 1)
    here = next_stands s acc₀ base p b d w A run f m W f' h e

    new : (i : ℕ) → 1 ≤ i → i ≤ m → walk_place (p - 1) d i ≢ f'
    new i k l g = places_apart p d A.modulus A.low A.high i (m + 1) (omega arith) (omega arith) (g ∙ here)

    pub added_more : (run' acc' : List ℕ) → RowsAdded add s acc₀ acc base p b d w m → RowStepped add s run run' acc acc' (base + f * b) (f' * w) w
        → RowsAdded add s acc₀ acc' base p b d w (m + 1)
    added_more run' acc' D S = record {
      len = S.given.len ∙ D.len;
      done = λ i x k l g. go i x k l g (dec_lt i (m + 1));
      rest = λ q x k l.
          let ne : q ≢ f' = λ z. k (m + 1) (omega arith) (omega arith) (sym (z ∙ here)) in
          other_row acc acc' f' w q x _ S.given ne l ∙ D.rest q x (λ i u v. k i u (omega arith)) l;
    }
      where
        go : (i x : ℕ) → 1 ≤ i → i ≤ m + 1 → x < w → Dec (i < m + 1)
            → row_byte acc' w (walk_place (p - 1) d i) x ≡ kept add (row_byte acc₀ w (walk_place (p - 1) d i) x) ⊕ found s base (p - 1) b d x (walk_place (p - 1) d i)
        go i x k u g (yes l) = other_row acc acc' f' w (walk_place (p - 1) d i) x _ S.given (new i k (omega arith)) g ∙ D.done i x k (omega arith) g
        go i x k u g (no l) =
            let z : m + 1 ≡ i = omega arith in
            subst (λ (q : ℕ). row_byte acc' w q x ≡ kept add (row_byte acc₀ w q x) ⊕ found s base (p - 1) b d x q) (here ∙ ap (walk_place (p - 1) d) z)
            (S.given.inner x g ∙ ap₂ ◌⊕◌ (ap (kept add) (D.rest f' x new g)) (ran_found s acc₀ base p b d w A run f m W f' h e x g))

  -- ---- every row was come to

  pub added_end : (add : Bool) (acc : List ℕ) (m : ℕ) → p ≤ m → RowsAdded add s acc₀ acc base p b d w m → Walked add s acc₀ acc base p b d w
  added_end add acc m h D = record { bytes = λ q x k l. go q x l (reached p d A.modulus A.low A.high q k) }
    where
      go : (q x : ℕ) → x < w → (i : ℕ) × (1 ≤ i) × (i ≤ p) × (walk_place (p - 1) d i ≡ q) → row_byte acc w q x ≡ kept add (row_byte acc₀ w q x) ⊕ found s base (p - 1) b d x q
      go q x l r =
          subst (λ (q : ℕ). row_byte acc w q x ≡ kept add (row_byte acc₀ w q x) ⊕ found s base (p - 1) b d x q) r.3 (D.done r.0 x r.1 (omega (arith, r.2)) l)

-- the first column
pub first_sums : (s acc₀ acc : List ℕ) (base p b d w : ℕ) → Walked false s acc₀ acc base p b d w → Sums s acc base p b d w 1
unfolding sum_found sum
first_sums s acc₀ acc base p b d w W = record {
  bytes = λ q x k l.
      let e : base ≡ base + 0 * ((p - 1) * b) = omega arith in
      let z : d ≡ d + 0 = omega arith in
      W.bytes q x k l ∙ zero_⊕ (found s base (p - 1) b d x q)
      ∙ ap₂ (λ (u v : ℕ). found s u (p - 1) b v x q) e z ∙ sym (zero_⊕ (found s (base + 0 * ((p - 1) * b)) (p - 1) b (d + 0) x q));
}

-- ---- columns after the first

pub sums_more : (s acc acc' : List ℕ) (from p b d w i c : ℕ) → c ≡ (p - 1) * b → Sums s acc from p b d w i → Walked true s acc acc' (from + i * c) p b (d + i) w → Sums s acc' from p b d w (i + 1)
unfolding sum_found
sums_more s acc acc' from p b d w i c e S W = record {
  bytes = λ q x k l.
      let z : suc i ≡ i + 1 = omega arith in
      let f : ℕ → ℕ = λ j. found s (from + j * ((p - 1) * b)) (p - 1) b (d + j) x q in
      W.bytes q x k l ∙ ap₂ (λ (u v : ℕ). u ⊕ found s (from + i * v) (p - 1) b (d + i) x q) (S.bytes q x k l) e
      ∙ sym (sum_back i f) ∙ ap (λ (y : ℕ). sum_found s from (p - 1) b d y x q) z;
}
