-- The exponents of the columns that lost ones are found from, and what they are for the words of a lost column.
-- Assumes nothing.
use Prim.Native.Nat.{ℕ, suc, ◌+◌, ◌-◌, ◌<◌, ◌≤◌}
use mathlib.Core.Bool.{Bool, true, false}
use mathlib.Core.List.{List, ◌++◌}
use mathlib.Core.Path.{◌≡◌, sym, ap, ap₂, ◌∙◌, subst}
use native.Mathlib.Omega.{arith}
use lib.Dec.{ltb}
use lib.ListN.{length, take, drop, length-append, length-drop}
use lib.Seq.{drop_at, length-take-le, take_at}
use borrow.Author.Tests.{le-ltb, lt-ltb}
use borrow.Rule.Slice.PartMut.{put_mid}
use Rattle.laws.specs.Bit.{weight}
use Rattle.laws.specs.Choose.{choose}
use Rattle.algebra.specs.Cauchy.{Off, Distinct, Cross}
use Rattle.algebra.specs.Lane.{Apart}
use Rattle.algebra.specs.Prime.{Modulus}
use Rattle.stripe.specs.Layout.{rows}
use Rattle.stripe.specs.declared.Params.{Params}
use Rattle.solver.proofs.Lists.{tail_put}
use Rattle.pattern.proofs.Count.{consulted_distinct, length_consulted, length_lost, length_present, lost_cross, lost_distinct, lost_small, lost_within, parity_mark, parity_none, parity_off_lost, parity_off_present, present_apart, prime_next, weight_mark}
use Rattle.pattern.proofs.Marks.{count_up}
use Rattle.pattern.specs.Inner.{Repairable}
use Rattle.pattern.specs.Pattern.{consulted, is_lost, lost_exponents, present_exponents}
use Rattle.recovery.specs.Inner.{LostColumn, Sourced}
use Rattle.recovery.specs.Words.{column_words, data_words, parity_words, sources}

-- ---- how many columns

pub repair_modulus : (q : Params) (m : ℕ) → Repairable q m → Modulus q.p
repair_modulus q m R = record { small = R.admitted.p_high; prime = R.admitted.prime }

pub length_sources : (q : Params) (m : ℕ) → Repairable q m → length (sources q m) ≡ q.k
unfolding sources
length_sources q m R = length-append (consulted q m) (present_exponents q m) ∙ omega (arith, length_consulted q m R.few, length_present q m)

-- ---- both lists put in their places, where g data columns are lost

module _ (q : Params) (m : ℕ) (R : Repairable q m) (s : List ℕ) (room : length s ≡ q.k) (g : ℕ) (e : g ≡ weight m q.k) where
  front_room : g ≤ length s
  front_room = omega (arith, lost_within q m)

  lent : length (take g s) ≡ g
  lent = length-take-le g s front_room

  pub consulted_places : length (take g s) ≡ length (consulted q m)
  consulted_places = lent ∙ e ∙ sym (length_consulted q m R.few)

  module _ (xs : List ℕ) (x : xs ≡ consulted q m) where
    length_xs : length xs ≡ g
    length_xs = ap length x ∙ length_consulted q m R.few ∙ sym e

    length_put : length (xs ++ drop g s) ≡ q.k
    length_put = length-append xs (drop g s) ∙ omega (arith, length_xs, length-drop g s, front_room, room)

    pub present_places : length (take (length (xs ++ drop g s) - g) (drop g (xs ++ drop g s))) ≡ length (present_exponents q m)
    present_places =
        let w : List ℕ = xs ++ drop g s in
        length-take-le (length w - g) (drop g w) (omega (arith, length-drop g w)) ∙ omega (arith, length_put, length_present q m)

    pub sources_are : (zs : List ℕ) → zs ≡ present_exponents q m
        → put_mid g (length (xs ++ drop g s) - g) (xs ++ drop g s) zs ≡ sources q m
    unfolding sources
    sources_are zs z = tail_put (xs ++ drop g s) zs g ∙ ap₂ ◌++◌ (take_at xs (drop g s) g length_xs ∙ x) z

pub ruleset sourcing = (consulted_places, present_places, sources_are)

-- ---- the words of a lost column n, by both lists

module _ (q : Params) (m : ℕ) (R : Repairable q m) (from ys : List ℕ) (F : from ≡ sources q m) (Y : ys ≡ lost_exponents q m) where
  same : length (consulted q m) ≡ length (lost_exponents q m)
  same = length_consulted q m R.few ∙ sym (length_lost q m)

  front : take (length ys) from ≡ consulted q m
  unfolding sources
  front = rw (F, Y) (take_at (consulted q m) (present_exponents q m) (length (lost_exponents q m)) same)

  rest : drop (length ys) from ≡ present_exponents q m
  unfolding sources
  rest = rw (F, Y) (drop_at (consulted q m) (present_exponents q m) (length (lost_exponents q m)) same)

  module _ (n : ℕ) (out : List ℕ) (L : LostColumn q m n out) where
    pub column_sourced : Sourced q.p from ys out
    column_sourced =
        let z : suc (rows q) ≡ q.p = sym (prime_next q R.admitted) in
        record {
          same = ap length F ∙ length_sources q m R ∙ sym L.room;
          short = omega (arith, L.room, ap length Y, length_lost q m, lost_within q m);
          distinct_x = rw front (subst (λ (p : ℕ). Distinct (Apart p) (consulted q m)) z (consulted_distinct q m R.admitted));
          distinct_y = rw Y (subst (λ (p : ℕ). Distinct (Apart p) (lost_exponents q m)) z (lost_distinct q m R.admitted));
          cross_lost = rw (front, Y) (subst (λ (p : ℕ). Cross (Apart p) (consulted q m) (lost_exponents q m)) z (lost_cross q m R.admitted));
          cross_present = rw (rest, front) (present_apart q m R.admitted);
        }

    -- the number of a lost data column is one of the matrix's rows
    pub column_number : (u : ℕ) → n < q.k → u ≡ weight m n → u < length ys
    column_number u h i =
        let j : ℕ = q.k - suc n in
        let z : suc n + j ≡ q.k = omega arith in
        let y : ◌≡◌ {A = ℕ} (choose (is_lost m n) 1 0) 1 = ap (λ (b : Bool). choose b 1 0) L.away in
        let c : weight m (suc n + j) ≡ weight m q.k = ap (weight m) z in
        omega (arith, ap length Y, length_lost q m, weight_mark m n, parity_none m (suc n), count_up (λ i. weight m (suc n + i)) (λ i. is_lost m (suc n + i)) (parity_mark m (suc n)) j)

    pub off_lost : q.k ≤ n → Off (Apart q.p) (n - q.k) ys
    off_lost h = rw Y (parity_off_lost q m R.admitted (n - q.k) (omega (arith, L.column)))

    pub off_present : q.k ≤ n → Off (Apart q.p) (n - q.k) (drop (length ys) from)
    off_present h = rw rest (parity_off_present q m R.admitted (n - q.k) (omega (arith, L.column)))

  module _ (n : ℕ) (t : List ℕ) where
    pub column_data : (u : ℕ) → n < q.k → u ≡ weight m n → t ≡ data_words q.p (take (length ys) from) ys (drop (length ys) from) u → t ≡ column_words q m n
    unfolding column_words
    column_data u h i f =
        let z : ltb n q.k ≡ true = lt-ltb n q.k h in
        let d : t ≡ data_words q.p (consulted q m) (lost_exponents q m) (present_exponents q m) u = rw (front, rest, Y) at f in
        rw z (d ∙ ap (data_words q.p (consulted q m) (lost_exponents q m) (present_exponents q m)) i)

    pub column_parity : q.k ≤ n → t ≡ parity_words q.p (take (length ys) from) ys (drop (length ys) from) (n - q.k) → t ≡ column_words q m n
    unfolding column_words
    column_parity h f = let z : ltb n q.k ≡ false = le-ltb n q.k h in rw z (rw (front, rest, Y) at f)

-- ---- both lists as arrays v and w have them in their first places

-- a list l in the first k places of w
pub first_of : (l w : List ℕ) (k : ℕ) → length l ≡ k → (take k (l ++ drop k w) ≡ l) × (k ≤ length (l ++ drop k w))
first_of l w k e = (take_at l (drop k w) k e, omega (arith, length-append l (drop k w)))

module _ (q : Params) (m : ℕ) (R : Repairable q m) (v from : List ℕ) (F : from ≡ sources q m) where
  pub from_lent : take q.k (from ++ drop q.k v) ≡ sources q m
  from_lent = (first_of from v q.k (ap length F ∙ length_sources q m R)).0 ∙ F

module _ (q : Params) (m : ℕ) (g : ℕ) (e : g ≡ weight m q.k) where
  pub lost_room : Repairable q m → g ≤ 30
  lost_room R = omega (arith, lost_small q m R.admitted R.few)

  pub lost_part : Repairable q m → (s : List ℕ) → length s ≡ 30 → g ≡ length (take g s)
  lost_part R s l = sym (length-take-le g s (omega (arith, lost_room R)))

  pub lost_places : Repairable q m → (s : List ℕ) → length s ≡ 30 → length (take g s) ≡ length (lost_exponents q m)
  lost_places R s l = sym (lost_part R s l) ∙ e ∙ sym (length_lost q m)

  module _ (w ys : List ℕ) (Y : ys ≡ lost_exponents q m) where
    pub ys_lent : take g (ys ++ drop g w) ≡ lost_exponents q m
    ys_lent = (first_of ys w g (ap length Y ∙ length_lost q m ∙ sym e)).0 ∙ Y

    pub ys_room : g ≤ length (ys ++ drop g w)
    ys_room = (first_of ys w g (ap length Y ∙ length_lost q m ∙ sym e)).1

    pub ys_part : g ≡ length (take g (ys ++ drop g w))
    ys_part = sym (length-take-le g (ys ++ drop g w) ys_room)
