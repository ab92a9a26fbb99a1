-- How many columns are lost, present and consulted, and that their exponents make a system that can be solved.
-- Assumes nothing.
use Prim.Native.Nat.{◌<◌, ◌≤◌, ◌+◌, ℕ, zero, suc, ◌-◌}
use mathlib.Core.Bool.{true, false}
use mathlib.Core.List.{[], ◌∷◌, List}
use mathlib.Core.Path.{◌≡◌, ◌∙◌, sym, ap, refl, subst}
use native.Mathlib.Omega.{arith}
use lib.Dec.{eqb, T, leb→le, le→leb}
use lib.ListN.{length, get_or, length-take}
use lib.Seq.{length-take-le, get_or-take}
use Rattle.laws.proofs.Bit.{bit_digit}
use Rattle.laws.specs.Bit.{weight, bit}
use Rattle.laws.specs.Choose.{choose}
use Rattle.laws.specs.Part.{table}
use Rattle.algebra.proofs.Lost.{rising_lost, rising_distinct, rising_off}
use Rattle.algebra.proofs.Restored.{rising_kept, cross_below, offs_below}
use Rattle.algebra.specs.Cauchy.{Distinct, Cross, Off}
use Rattle.algebra.specs.Lane.{Apart}
use Rattle.algebra.specs.Prime.{odd_prime}
use Rattle.algebra.specs.Recovery.{kept, Rising}
use Rattle.stripe.specs.Layout.{rows}
use Rattle.stripe.specs.Params.{Admitted}
use Rattle.stripe.specs.declared.Params.{Params}
use Rattle.pattern.proofs.Marks.{count_lost, count_kept, count_up, rising_table, rising_take, lost_marked, kept_unmarked}
use Rattle.pattern.specs.Pattern.{few_lost, is_lost, lost_marks, parity_marks, lost_count, data_exponents, lost_exponents, present_exponents, consulted}

-- ---- lost columns, counted

mark_digit : (d : ℕ) → d < 2 → d ≡ choose (eqb d 1) 1 0
mark_digit zero h = refl
mark_digit (suc zero) h = refl
mark_digit (suc (suc d)) h = absurd (omega arith)

pub weight_mark : (m i : ℕ) → weight m (suc i) ≡ weight m i + choose (is_lost m i) 1 0
unfolding weight
weight_mark m i = ap (λ (d : ℕ). weight m i + d) (mark_digit (bit m i) (bit_digit m i))

pub weight_none : (m : ℕ) → weight m 0 ≡ 0
unfolding weight
weight_none m = refl

-- the same from column k on
pub parity_mark : (m k j : ℕ) → weight m (k + suc j) ≡ weight m (k + j) + choose (is_lost m (k + j)) 1 0
parity_mark m k j = let e : k + suc j ≡ suc (k + j) = omega arith in ap (weight m) e ∙ weight_mark m (k + j)

pub parity_none : (m k : ℕ) → weight m (k + 0) ≡ weight m k
parity_none m k = let e : k + 0 ≡ k = omega arith in ap (weight m) e

module _ (q : Params) (m : ℕ) where
  -- "more than r columns lost", or not
  pub few_is : T (few_lost q m) → weight m (q.k + q.r) ≤ q.r
  unfolding few_lost
  few_is t = leb→le (weight m (q.k + q.r)) q.r t

  pub is_few : weight m (q.k + q.r) ≤ q.r → T (few_lost q m)
  unfolding few_lost
  is_few h = le→leb (weight m (q.k + q.r)) q.r h

  pub length_lost : length (lost_exponents q m) ≡ lost_count q m
  unfolding lost_exponents
  length_lost = omega (arith, count_lost q.k (is_lost m) (λ i. q.r + i) (weight m) (weight_mark m), weight_none m)

  pub length_present : length (present_exponents q m) + lost_count q m ≡ q.k
  unfolding present_exponents
  length_present = omega (arith, count_kept q.k (is_lost m) (λ i. q.r + i) (weight m) (weight_mark m), weight_none m)

  present_parity : length (kept (parity_marks q m) (table q.r (λ j. j))) + weight m (q.k + q.r) ≡ lost_count q m + q.r
  present_parity =
      count_kept q.r (λ j. is_lost m (q.k + j)) (λ j. j) (λ j. weight m (q.k + j)) (parity_mark m q.k)
      ∙ ap (λ (x : ℕ). x + q.r) (parity_none m q.k)

  -- enough parity is present
  pub length_consulted : T (few_lost q m) → length (consulted q m) ≡ lost_count q m
  unfolding consulted
  length_consulted t =
      let h : weight m q.k ≤ length (kept (parity_marks q m) (table q.r (λ j. j))) = omega (arith, present_parity, few_is t) in
      length-take-le (lost_count q m) (kept (parity_marks q m) (table q.r (λ j. j))) h

  pub lost_few : T (few_lost q m) → lost_count q m ≤ q.r
  lost_few t =
      omega (arith, parity_none m q.k, count_up (λ j. weight m (q.k + j)) (λ j. is_lost m (q.k + j)) (parity_mark m q.k) q.r, few_is t)

  pub lost_within : lost_count q m ≤ q.k
  lost_within = omega (arith, length_present)

  -- "k+r at most p" and p at most 61
  pub lost_small : Admitted q → T (few_lost q m) → lost_count q m ≤ 30
  lost_small a t = omega (arith, lost_few t, lost_within)

-- ---- exponents

pub prime_next : (q : Params) → Admitted q → q.p ≡ suc (rows q)
prime_next q a = omega arith

pub prime_rows : (q : Params) → Admitted q → T (odd_prime (suc (rows q)))
prime_rows q a = subst (λ (p : ℕ). T (odd_prime p)) (prime_next q a) a.prime

rising_higher : (lo hi hi' : ℕ) (l : List ℕ) → hi ≤ hi' → Rising lo hi l → Rising lo hi' l
rising_higher lo hi hi' [] h r = tt
rising_higher lo hi hi' (x ∷ l) h r = (r.0, omega arith, rising_higher (suc x) hi hi' l h r.2)

pub rising_at : (lo hi : ℕ) (l : List ℕ) → Rising lo hi l → (v : ℕ) → v < length l → (lo ≤ get_or l v 0) × (get_or l v 0 < hi)
rising_at lo hi [] r v h = absurd (omega arith)
rising_at lo hi (x ∷ l) r zero h = (r.0, r.1)
rising_at lo hi (x ∷ l) r (suc v) h = let z = rising_at (suc x) hi l r.2 v (omega arith) in (omega arith, z.1)

module _ (q : Params) (m : ℕ) where
  data_rising : Rising q.r (q.r + q.k) (data_exponents q)
  data_rising = rising_table q.k q.r (q.r + q.k) (λ i. q.r + i) (λ i. refl) (omega arith)

  pub lost_rising : Rising q.r (q.r + q.k) (lost_exponents q m)
  unfolding lost_exponents
  lost_rising = rising_lost q.r (q.r + q.k) (lost_marks q m) (data_exponents q) data_rising

  pub present_rising : Rising q.r (q.r + q.k) (present_exponents q m)
  unfolding present_exponents
  present_rising = rising_kept q.r (q.r + q.k) (lost_marks q m) (data_exponents q) data_rising

  pub consulted_rising : Rising 0 q.r (consulted q m)
  unfolding consulted
  consulted_rising =
      rising_take (lost_count q m) 0 q.r (kept (parity_marks q m) (table q.r (λ j. j)))
      (rising_kept 0 q.r (parity_marks q m) (table q.r (λ j. j)) (rising_table q.r 0 q.r (λ j. j) (λ j. omega arith) (omega arith)))

  -- each is of a column that is lost, or present
  pub lost_is_lost : (v : ℕ) → v < length (lost_exponents q m) → is_lost m (get_or (lost_exponents q m) v 0 - q.r) ≡ true
  unfolding lost_exponents
  lost_is_lost =
      lost_marked q.k (is_lost m) (λ i. q.r + i) (λ z. is_lost m (z - q.r)) 0 (λ i. let e : q.r + i - q.r ≡ i = omega arith in ap (is_lost m) e)

  pub present_is_present : (v : ℕ) → v < length (present_exponents q m) → is_lost m (get_or (present_exponents q m) v 0 - q.r) ≡ false
  unfolding present_exponents
  present_is_present =
      kept_unmarked q.k (is_lost m) (λ i. q.r + i) (λ z. is_lost m (z - q.r)) 0 (λ i. let e : q.r + i - q.r ≡ i = omega arith in ap (is_lost m) e)

  pub consulted_is_present : (v : ℕ) → v < length (consulted q m) → is_lost m (q.k + get_or (consulted q m) v 0) ≡ false
  unfolding consulted
  consulted_is_present v h =
      let K : List ℕ = kept (parity_marks q m) (table q.r (λ j. j)) in
      let g : v < lost_count q m = omega (arith, length-take (lost_count q m) K) in
      let l : v < length K = omega (arith, length-take (lost_count q m) K) in
      ap (λ (j : ℕ). is_lost m (q.k + j)) (get_or-take (lost_count q m) K v 0 g)
      ∙ kept_unmarked q.r (λ j. is_lost m (q.k + j)) (λ j. j) (λ j. is_lost m (q.k + j)) 0 (λ j. refl) v l

  module _ (a : Admitted q) where
    -- the exponents rise below p = rows + 1
    pub lost_below : Rising q.r (suc (rows q)) (lost_exponents q m)
    lost_below = rising_higher q.r (q.r + q.k) (suc (rows q)) (lost_exponents q m) (omega arith) lost_rising

    pub present_below : Rising q.r (suc (rows q)) (present_exponents q m)
    present_below = rising_higher q.r (q.r + q.k) (suc (rows q)) (present_exponents q m) (omega arith) present_rising

    pub consulted_distinct : Distinct (Apart (suc (rows q))) (consulted q m)
    consulted_distinct = rising_distinct (rows q) 0 q.r (consulted q m) (omega arith) consulted_rising

    pub lost_distinct : Distinct (Apart (suc (rows q))) (lost_exponents q m)
    lost_distinct = rising_distinct (rows q) q.r (suc (rows q)) (lost_exponents q m) (omega arith) lost_below

    pub lost_cross : Cross (Apart (suc (rows q))) (consulted q m) (lost_exponents q m)
    lost_cross = cross_below (rows q) 0 q.r (consulted q m) (lost_exponents q m) (omega arith) consulted_rising lost_below

    pub present_cross : Cross (Apart (suc (rows q))) (present_exponents q m) (consulted q m)
    present_cross = offs_below (rows q) q.r q.r (present_exponents q m) (consulted q m) (omega arith) present_below consulted_rising

    pub present_apart : Cross (Apart q.p) (present_exponents q m) (consulted q m)
    present_apart = subst (λ (p : ℕ). Cross (Apart p) (present_exponents q m) (consulted q m)) (sym (prime_next q a)) present_cross

    -- a parity column is apart from all data
    pub parity_off_lost : (j : ℕ) → j < q.r → Off (Apart q.p) j (lost_exponents q m)
    parity_off_lost j h =
        subst (λ (p : ℕ). Off (Apart p) j (lost_exponents q m)) (sym (prime_next q a))
        (rising_off (rows q) j q.r (suc (rows q)) (lost_exponents q m) h (omega arith) (omega arith) lost_below)

    pub parity_off_present : (j : ℕ) → j < q.r → Off (Apart q.p) j (present_exponents q m)
    parity_off_present j h =
        subst (λ (p : ℕ). Off (Apart p) j (present_exponents q m)) (sym (prime_next q a))
        (rising_off (rows q) j q.r (suc (rows q)) (present_exponents q m) h (omega arith) (omega arith) present_below)
