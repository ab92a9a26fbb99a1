-- The lists of columns that a pattern names, as a loop collects them.
-- Assumes nothing.
use Prim.Native.Nat.{◌%◌, ◌*◌, ◌+◌, ◌-◌, ◌/◌, ◌<◌, ◌^◌, ◌≤◌, min, suc, zero, ℕ}
use mathlib.Core.Bool.{Bool, false, not, true}
use mathlib.Core.List.{List, [], ◌++◌, ◌∷◌, append_assoc, append-nil}
use mathlib.Core.Path.{◌∙◌, ◌≡◌, ap, ap₂, refl, sym}
use native.Mathlib.Nat.{mod-lt, suc-add, zero-add, pow-suc}
use native.Mathlib.Omega.{arith}
use lib.Bits.{and_self, and_step, bit_and}
use lib.Count.{count_trailing_zeros, under}
use lib.Dec.{eqb}
use lib.ListN.{length, length-append, length-set, set, take}
use lib.Pow.{shr_le}
use lib.Seq.{length-take-le, take_all, take-append_seam, take-length, take-suc-set}
use Rattle.std.proofs.lemmas.List.{take-append-le}
use Rattle.std.proofs.lemmas.Nat.{and_le_l}
use Rattle.std.proofs.lemmas.Nat.Bits.{bit_at_not}
use Rattle.std.specs.Int.{w64}
use Rattle.laws.proofs.Bit.{bit_digit, bit_shr, bit_zero}
use Rattle.laws.proofs.Tab.{table_ext}
use Rattle.laws.specs.Bit.{bit}
use Rattle.laws.specs.Choose.{choose}
use Rattle.laws.specs.Part.{table}
use Rattle.algebra.specs.Recovery.{kept, lost}
use Rattle.stripe.specs.Params.{Admitted}
use Rattle.stripe.specs.declared.Params.{Params}
use Rattle.pattern.specs.Pattern.{consulted, is_lost, lost_count, lost_exponents, parity_marks, present_exponents}
use Rattle.pattern.specs.Inner.{named}

-- ---- lost and kept of tables

module _ {A : Type 0} where
  lost_first : (b : Bool) (a : A) (m : List Bool) (l : List A) → lost (b ∷ m) (a ∷ l) ≡ choose b (a ∷ []) [] ++ lost m l
  lost_first true a m l = refl
  lost_first false a m l = refl

  -- of the first n, then of the d after them
  lost_more : (n d : ℕ) (f : ℕ → Bool) (v : ℕ → A)
      → lost (table (n + d) f) (table (n + d) v) ≡ lost (table n f) (table n v) ++ lost (table d (λ i. f (n + i))) (table d (λ i. v (n + i)))
  lost_more zero d f v =
      ap (λ (j : ℕ). lost (table j f) (table j v)) (zero-add d)
      ∙ ap₂ lost (table_ext d f (λ i. f (0 + i)) (λ i h. ap f (sym (zero-add i)))) (table_ext d v (λ i. v (0 + i)) (λ i h. ap v (sym (zero-add i))))
  lost_more (suc n) d f v =
      let g : ℕ → Bool = λ i. f (suc i) in
      let w : ℕ → A = λ i. v (suc i) in
      let k : List A = lost (table d (λ i. g (n + i))) (table d (λ i. w (n + i))) in
      ap (λ (j : ℕ). lost (table j f) (table j v)) (suc-add n d)
      ∙ lost_first (f 0) (v 0) (table (n + d) g) (table (n + d) w)
      ∙ ap (λ (l : List A). choose (f 0) (v 0 ∷ []) [] ++ l) (lost_more n d g w)
      ∙ sym (append_assoc (choose (f 0) (v 0 ∷ []) []) (lost (table n g) (table n w)) k)
      ∙ ap₂ ◌++◌ (sym (lost_first (f 0) (v 0) (table n g) (table n w)))
      (ap₂ lost (table_ext d (λ i. g (n + i)) (λ i. f (suc n + i)) (λ i h. ap f (sym (suc-add n i)))) (table_ext d (λ i. w (n + i)) (λ i. v (suc n + i)) (λ i h. ap v (sym (suc-add n i)))))

  lost_none : (n : ℕ) (f : ℕ → Bool) (v : ℕ → A) → ((i : ℕ) → f i ≡ false) → lost (table n f) (table n v) ≡ []
  lost_none zero f v h = refl
  lost_none (suc n) f v h =
      lost_first (f 0) (v 0) (table n (λ i. f (suc i))) (table n (λ i. v (suc i)))
      ∙ ap (λ (b : Bool). choose b (v 0 ∷ []) [] ++ lost (table n (λ i. f (suc i))) (table n (λ i. v (suc i)))) (h 0)
      ∙ lost_none n (λ i. f (suc i)) (λ i. v (suc i)) (λ i. h (suc i))

  kept_first : (b : Bool) (a : A) (m c : List Bool) (k l : List A) → kept m k ≡ lost c l → kept (b ∷ m) (a ∷ k) ≡ lost (not b ∷ c) (a ∷ l)
  kept_first true a m c k l e = e
  kept_first false a m c k l e = ap (λ (x : List A). a ∷ x) e

  -- the present ones are those that the opposite marks name
  kept_lost : (n : ℕ) (f g : ℕ → Bool) (v : ℕ → A) → ((i : ℕ) → g i ≡ not (f i)) → kept (table n f) (table n v) ≡ lost (table n g) (table n v)
  kept_lost zero f g v e = refl
  kept_lost (suc n) f g v e =
      kept_first (f 0) (v 0) (table n (λ i. f (suc i))) (table n (λ i. g (suc i))) (table n (λ i. v (suc i))) (table n (λ i. v (suc i)))
      (kept_lost n (λ i. f (suc i)) (λ i. g (suc i)) (λ i. v (suc i)) (λ i. e (suc i)))
      ∙ ap (λ (b : Bool). lost (b ∷ table n (λ i. g (suc i))) (v 0 ∷ table n (λ i. v (suc i)))) (sym (e 0))

digit_not : (d : ℕ) → d < 2 → eqb d 0 ≡ not (eqb d 1)
digit_not zero h = refl
digit_not (suc zero) h = refl
digit_not (suc (suc d)) h = absurd (omega arith)

-- ---- the loop

-- what the lowest k bits of x name
module _ (v : ℕ → ℕ) where
  by_bits : ℕ → ℕ → List ℕ
  by_bits k x = lost (table k (λ i. eqb (bit x i) 1)) (table k v)

-- the lowest bit, and the others
bits_first : (k x : ℕ) (v : ℕ → ℕ) → by_bits v (suc k) x ≡ choose (eqb (x % 2) 1) (v 0 ∷ []) [] ++ by_bits (λ i. v (suc i)) k (x / 2)
unfolding by_bits bit
bits_first k x v =
    let z : x / 2 ^ 0 ≡ x = omega arith in
    lost_first (eqb (x / 2 ^ 0 % 2) 1) (v 0) (table k (λ i. eqb (x / 2 ^ suc i % 2) 1)) (table k (λ i. v (suc i)))
    ∙ ap₂ (λ (a : ℕ) (m : List Bool). choose (eqb (a % 2) 1) (v 0 ∷ []) [] ++ lost m (table k (λ i. v (suc i)))) z
    (table_ext k (λ i. eqb (x / 2 ^ suc i % 2) 1) (λ i. eqb (x / 2 / 2 ^ i % 2) 1) (λ i h. ap (λ (b : ℕ). eqb b 1) (half i)))
  where
    half : (i : ℕ) → x / 2 ^ suc i % 2 ≡ x / 2 / 2 ^ i % 2
    half i = let z : 1 + i ≡ suc i = omega arith in sym (bit_shr x 1 i ∙ ap (bit x) z)

-- the lowest set bit is named first, and x & (x - 1) has the others
bits_walk : (k x : ℕ) (v : ℕ → ℕ) → 0 < x → x < 2 ^ k → by_bits v k x ≡ v (count_trailing_zeros k x) ∷ by_bits v k (bit_and x (x - 1))
unfolding count_trailing_zeros
bits_walk zero x v h l = absurd (omega arith)
bits_walk (suc k) x v h l = go (x % 2) refl (λ e. bits_walk k (x / 2) (λ i. v (suc i)) (omega arith) (omega (arith, pow-suc 2 k)))
  where
    rest : (y : ℕ) → y % 2 ≡ 0 → by_bits v (suc k) y ≡ by_bits (λ i. v (suc i)) k (y / 2)
    rest y e = bits_first k y v ∙ ap (λ (d : ℕ). choose (eqb d 1) (v 0 ∷ []) [] ++ by_bits (λ i. v (suc i)) k (y / 2)) e

    go : (d : ℕ) → x % 2 ≡ d → (x % 2 ≡ 0 → by_bits (λ i. v (suc i)) k (x / 2) ≡ v (suc (count_trailing_zeros k (x / 2))) ∷ by_bits (λ i. v (suc i)) k (bit_and (x / 2) (x / 2 - 1)))
        → by_bits v (suc k) x ≡ v (under d (count_trailing_zeros k (x / 2))) ∷ by_bits v (suc k) (bit_and x (x - 1))
    go zero e ih =
        let y : ℕ = bit_and x (x - 1) in
        let m : (x - 1) / 2 ≡ x / 2 - 1 = omega arith in
        let n : (x - 1) % 2 ≡ 1 = omega arith in
        let s : y ≡ bit_and (x / 2) (x / 2 - 1) * 2 + 0 = and_step x (x - 1) ∙ ap₂ (λ (a b : ℕ). bit_and (x / 2) a * 2 + b) m (ap₂ min e n) in
        let f : y / 2 ≡ bit_and (x / 2) (x / 2 - 1) = omega arith in
        bits_first k x v ∙ ap (λ (d : ℕ). choose (eqb d 1) (v 0 ∷ []) [] ++ by_bits (λ i. v (suc i)) k (x / 2)) e ∙ ih e
        ∙ ap (λ (l : List ℕ). v (suc (count_trailing_zeros k (x / 2))) ∷ l) (ap (by_bits (λ i. v (suc i)) k) (sym f) ∙ sym (rest y (omega arith)))
    go (suc d) e ih =
        let y : ℕ = bit_and x (x - 1) in
        let o : x % 2 ≡ 1 = omega arith in
        let m : (x - 1) / 2 ≡ x / 2 = omega arith in
        let n : (x - 1) % 2 ≡ 0 = omega arith in
        let s : y ≡ x / 2 * 2 + 0 = and_step x (x - 1) ∙ ap₂ (λ (a b : ℕ). bit_and (x / 2) a * 2 + b) m (ap₂ min o n) ∙ ap (λ (a : ℕ). a * 2 + 0) (and_self (x / 2)) in
        let f : y / 2 ≡ x / 2 = omega arith in
        bits_first k x v ∙ ap (λ (d : ℕ). choose (eqb d 1) (v 0 ∷ []) [] ++ by_bits (λ i. v (suc i)) k (x / 2)) o
        ∙ ap (λ (l : List ℕ). v 0 ∷ l) (ap (by_bits (λ i. v (suc i)) k) (sym f) ∙ sym (rest y (omega arith)))

-- the first c places have the numbers of the lowest set bits, and the bits that are left name the others
pub record Collecting (x base : ℕ) (s t : List ℕ) (c rest : ℕ) : Type 0 where
  pub len : length t ≡ length s
  pub small : rest < 2 ^ 64
  pub front : take c t ++ named rest 1 base 64 ≡ named x 1 base 64
  pub enough : length s ≤ length (named x 1 base 64)

pub collect_none : (x base : ℕ) (s : List ℕ) → x < 2 ^ 64 → length s ≤ length (named x 1 base 64) → Collecting x base s s 0 x
collect_none x base s h e = record { len = refl; small = h; front = refl; enough = e }

module _ (x base : ℕ) (s t : List ℕ) (c rest : ℕ) (d : Collecting x base s t c rest) where
  -- while a place is free a bit is left
  pub collect_some : c < length t → 0 < rest
  unfolding named
  collect_some h = go rest refl
    where
      go : (r : ℕ) → rest ≡ r → 0 < rest
      go zero e =
          let n : named rest 1 base 64 ≡ [] = ap (λ (m : ℕ). named m 1 base 64) e ∙ lost_none 64 (λ i. eqb (bit 0 i) 1) (λ i. base + i) (λ i. ap (λ (b : ℕ). eqb b 1) (bit_zero i)) in
          let f : take c t ≡ named x 1 base 64 = sym (append-nil (take c t)) ∙ ap (λ (l : List ℕ). take c t ++ l) (sym n) ∙ d.front in
          absurd (omega (arith, d.len, d.enough, ap length f, length-take-le c t (omega arith)))
      go (suc r) e = omega arith

  pub collect_more : c < length s → Collecting x base s (set t c (base + count_trailing_zeros 64 rest)) (c + 1) (bit_and rest (rest - 1))
  unfolding named by_bits
  collect_more b =
      let h : c < length t = omega (arith, d.len) in
      let v : ℕ = base + count_trailing_zeros 64 rest in
      let k : c + 1 ≡ suc c = omega arith in
      record {
        len = length-set t c v ∙ d.len;
        small = omega (arith, and_le_l rest (rest - 1), d.small);
        front = ap (λ (j : ℕ). take j (set t c v) ++ named (bit_and rest (rest - 1)) 1 base 64) k
            ∙ ap (λ (l : List ℕ). l ++ named (bit_and rest (rest - 1)) 1 base 64) (take-suc-set t c v h)
            ∙ append_assoc (take c t) (v ∷ []) (named (bit_and rest (rest - 1)) 1 base 64)
            ∙ ap (λ (l : List ℕ). take c t ++ l) (sym (bits_walk 64 rest (λ i. base + i) (collect_some h) d.small))
            ∙ d.front;
        enough = d.enough;
      }

  pub collect_end : length t ≤ c → t ≡ take (length s) (named x 1 base 64)
  collect_end h =
      let e : t ++ named rest 1 base 64 ≡ named x 1 base 64 = ap (λ (l : List ℕ). l ++ named rest 1 base 64) (sym (take_all c t h)) ∙ d.front in
      sym (take-append_seam t (named rest 1 base 64)) ∙ ap₂ take d.len e

pub ruleset collecting = (collect_none, collect_some, collect_more, collect_end)

-- ---- the three lists: x is what was collected, s as many places

take_most : (g : ℕ) (l : List ℕ) → length (take g l) ≤ length l
take_most zero l = omega arith
take_most (suc g) [] = omega arith
take_most (suc g) (a ∷ l) = omega (arith, take_most g l)

take_taken : (g : ℕ) (l : List ℕ) → take (length (take g l)) l ≡ take g l
take_taken zero l = refl
take_taken (suc g) [] = refl
take_taken (suc g) (a ∷ l) = ap (λ (k : List ℕ). a ∷ k) (take_taken g l)

whole : (l s x : List ℕ) → length s ≡ length l → x ≡ take (length s) l → x ≡ l
whole l s x e f = f ∙ ap (λ (j : ℕ). take j l) e ∙ take-length l

-- of 64 bits, those below n
named_below : (m base n : ℕ) → n ≤ 64 → (l : List ℕ) × (named m 1 base 64 ≡ named m 1 base n ++ l)
unfolding named
named_below m base n h =
    let z : 64 ≡ n + (64 - n) = omega arith in
    let f : ℕ → Bool = λ i. eqb (bit m i) 1 in
    let v : ℕ → ℕ = λ i. base + i in
    (lost (table (64 - n) (λ i. f (n + i))) (table (64 - n) (λ i. v (n + i))), ap (λ (j : ℕ). lost (table j f) (table j v)) z ∙ lost_more n (64 - n) f v)

-- the bits that are not set
named_not : (m base n : ℕ) → m < 2 ^ 64 → n ≤ 64 → named (2 ^ 64 - 1 - m) 1 base n ≡ named m 0 base n
unfolding named bit
named_not m base n l h =
    ap (λ (k : List Bool). lost k (table n (λ i. base + i)))
    (table_ext n (λ i. eqb ((2 ^ 64 - 1 - m) / 2 ^ i % 2) 1) (λ i. eqb (m / 2 ^ i % 2) 0) (λ i g. turned i g (m / 2 ^ i % 2) refl (mod-lt (m / 2 ^ i) (omega arith))))
  where
    turned : (i : ℕ) → i < n → (d : ℕ) → m / 2 ^ i % 2 ≡ d → d < 2 → eqb ((2 ^ 64 - 1 - m) / 2 ^ i % 2) 1 ≡ eqb d 0
    turned i g zero e k = ap (λ (b : ℕ). eqb b 1) (bit_at_not w64 m i l (omega arith) ∙ ap (λ (b : ℕ). 1 - b) e)
    turned i g (suc zero) e k = ap (λ (b : ℕ). eqb b 1) (bit_at_not w64 m i l (omega arith) ∙ ap (λ (b : ℕ). 1 - b) e)
    turned i g (suc (suc d)) e k = absurd (omega arith)

-- as many places as the bits below n name, or fewer, have room, and take those
first_room : (m base n g : ℕ) → n ≤ 64 → g ≤ length (named m 1 base n) → g ≤ length (named m 1 base 64)
first_room m base n g h k = let b = named_below m base n h in omega (arith, ap length b.1, length-append (named m 1 base n) b.0)

first_taken : (m base n g : ℕ) → n ≤ 64 → g ≤ length (named m 1 base n) → take g (named m 1 base 64) ≡ take g (named m 1 base n)
first_taken m base n g h k = let b = named_below m base n h in ap (take g) b.1 ∙ take-append-le g (named m 1 base n) b.0 k

module _ (q : Params) (a : Admitted q) (m : ℕ) (small : m < 2 ^ 64) (s : List ℕ) where
  lost_named : named m 1 q.r q.k ≡ lost_exponents q m
  unfolding named lost_exponents
  lost_named = refl

  present_named : named (2 ^ 64 - 1 - m) 1 q.r q.k ≡ present_exponents q m
  unfolding named present_exponents
  present_named =
      named_not m q.r q.k small (omega arith)
      ∙ sym (kept_lost q.k (λ i. is_lost m i) (λ i. eqb (bit m i) 0) (λ i. q.r + i) (λ i. digit_not (bit m i) (bit_digit m i)))

  consulted_named : take (lost_count q m) (named (2 ^ 64 - 1 - m / 2 ^ q.k) 1 0 q.r) ≡ consulted q m
  unfolding named consulted
  consulted_named = ap (take (lost_count q m)) (named_not (m / 2 ^ q.k) 0 q.r (omega (arith, shr_le m q.k)) (omega arith) ∙ sym e)
    where
      opposite : (j : ℕ) → eqb (bit (m / 2 ^ q.k) j) 0 ≡ not (is_lost m (q.k + j))
      opposite j = ap (λ (b : ℕ). eqb b 0) (bit_shr m q.k j) ∙ digit_not (bit m (q.k + j)) (bit_digit m (q.k + j))

      e : kept (parity_marks q m) (table q.r (λ j. j)) ≡ lost (table q.r (λ j. eqb (bit (m / 2 ^ q.k) j) 0)) (table q.r (λ j. 0 + j))
      e = kept_lost q.r (λ j. is_lost m (q.k + j)) (λ j. eqb (bit (m / 2 ^ q.k) j) 0) (λ j. j) opposite
          ∙ ap (λ (l : List ℕ). lost (table q.r (λ j. eqb (bit (m / 2 ^ q.k) j) 0)) l) (table_ext q.r (λ j. j) (λ j. 0 + j) (λ j h. omega arith))

  module _ (e : length s ≡ length (lost_exponents q m)) where
    lost_most : length s ≤ length (named m 1 q.r q.k)
    lost_most = omega (arith, ap length lost_named)

    pub lost_room : length s ≤ length (named m 1 q.r 64)
    lost_room = first_room m q.r q.k (length s) (omega arith) lost_most

    pub lost_collected : (x : List ℕ) → x ≡ take (length s) (named m 1 q.r 64) → x ≡ lost_exponents q m
    lost_collected x f = whole (lost_exponents q m) s x e (f ∙ first_taken m q.r q.k (length s) (omega arith) lost_most ∙ ap (take (length s)) lost_named)

  module _ (e : length s ≡ length (present_exponents q m)) where
    present_most : length s ≤ length (named (2 ^ 64 - 1 - m) 1 q.r q.k)
    present_most = omega (arith, ap length present_named)

    pub present_room : length s ≤ length (named (2 ^ 64 - 1 - m) 1 q.r 64)
    present_room = first_room (2 ^ 64 - 1 - m) q.r q.k (length s) (omega arith) present_most

    pub present_collected : (x : List ℕ) → x ≡ take (length s) (named (2 ^ 64 - 1 - m) 1 q.r 64) → x ≡ present_exponents q m
    present_collected x f =
        whole (present_exponents q m) s x e (f ∙ first_taken (2 ^ 64 - 1 - m) q.r q.k (length s) (omega arith) present_most ∙ ap (take (length s)) present_named)

  module _ (e : length s ≡ length (consulted q m)) where
    n : List ℕ
    n = named (2 ^ 64 - 1 - m / 2 ^ q.k) 1 0 q.r

    consulted_most : length s ≤ length n
    unfolding n
    consulted_most = omega (arith, ap length consulted_named, take_most (lost_count q m) n)

    pub consulted_room : length s ≤ length (named (2 ^ 64 - 1 - m / 2 ^ q.k) 1 0 64)
    unfolding n
    consulted_room = first_room (2 ^ 64 - 1 - m / 2 ^ q.k) 0 q.r (length s) (omega arith) consulted_most

    pub consulted_collected : (x : List ℕ) → x ≡ take (length s) (named (2 ^ 64 - 1 - m / 2 ^ q.k) 1 0 64) → x ≡ consulted q m
    unfolding n
    consulted_collected x f =
        f ∙ first_taken (2 ^ 64 - 1 - m / 2 ^ q.k) 0 q.r (length s) (omega arith) consulted_most
        ∙ ap (λ (j : ℕ). take j n) (e ∙ ap length (sym consulted_named)) ∙ take_taken (lost_count q m) n ∙ consulted_named

pub ruleset losing = (lost_room, lost_collected)

pub ruleset keeping = (present_room, present_collected)

pub ruleset consulting = (consulted_room, consulted_collected)
