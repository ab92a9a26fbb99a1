-- A walk comes to each place once, finds the quotient but for a constant, and the sum of all its places is that constant.
-- Assumes nothing.
use Prim.Native.Nat.{ℕ, zero, suc, ◌+◌, ◌-◌, ◌*◌, ◌/◌, ◌%◌, ◌^◌, ◌≤◌, ◌<◌}
use mathlib.Core.Logic.{◌≢◌}
use mathlib.Core.Path.{◌≡◌, sym, ap, ◌∙◌, ap₂, refl}
use native.Mathlib.Decide.{dec_lt}
use native.Mathlib.Nat.{add-mod_right, mod-eq_of_lt, mod-add-div', mod-lt, zero-lt-suc, add-mul-mod_self_right, add-mod-mod}
use native.Mathlib.Omega.{arith}
use lib.Dec.{T, eqb, eqb→eq}
use Rattle.laws.proofs.Choose.{implied, below_at}
use Rattle.laws.proofs.Rows.{row_in}
use Rattle.laws.proofs.Sum.{cancel, sum_back, sum_ext, sum_add, sum_swap, sum_all, sum_none}
use Rattle.laws.proofs.Xor.{⊕_self, ⊕_assoc, ⊕_comm, zero_⊕, ⊕_zero}
use Rattle.laws.specs.Bit.{bit}
use Rattle.laws.specs.Choose.{implies, below}
use Rattle.laws.specs.Sum.{sum}
use Rattle.laws.specs.Xor.{◌⊕◌}
use Rattle.algebra.proofs.Column.{lane_periodic, lane_even, lane_at}
use Rattle.algebra.proofs.Divide.{act_turn, divides}
use Rattle.algebra.proofs.Lane.{act_periodic, lower, act_even}
use Rattle.algebra.proofs.Period.{at_mod}
use Rattle.algebra.proofs.Prime.{prime_odd}
use Rattle.algebra.specs.Column.{lane}
use Rattle.algebra.specs.Divide.{over, quot, gap, inv, turn}
use Rattle.algebra.specs.Lane.{D, Periodic, Even, act}
use Rattle.algebra.specs.Prime.{odd_prime}
use Rattle.algebra.specs.Walk.{walk_place, walked}

-- c ^ (p - 2) is the inverse of c modulo p, for each prime in range
powers_invert : T (below 61 (λ n. implies (odd_prime (suc n)) (below n (λ c. eqb (suc c * (suc c ^ (n - 1)) % suc n) 1))))
unfolding below implies odd_prime
powers_invert = tt

pub unit : (n c : ℕ) → n < 61 → T (odd_prime (suc n)) → 0 < c → c ≤ n → c * c ^ (n - 1) % suc n ≡ 1
unit n zero small prime h k = absurd (omega arith)
unit n (suc c) small prime h k =
    eqb→eq _ 1
    (below_at (λ d. eqb (suc d * (suc d ^ (n - 1)) % suc n) 1) n
    (implied _ _ (below_at (λ m. implies (odd_prime (suc m)) (below m (λ d. eqb (suc d * (suc d ^ (m - 1)) % suc m) 1))) 61 powers_invert n small) prime) c k)

module _ (n : ℕ) where
  mul_mod : (x c : ℕ) → (x % suc n * c) % suc n ≡ (x * c) % suc n
  mul_mod x c =
      let e : x * c ≡ x % suc n * c + (x / suc n * c) * suc n = ap (λ (y : ℕ). y * c) (sym (mod-add-div' x (suc n))) ∙ omega arith in
      sym (ap (λ (y : ℕ). y % suc n) e ∙ add-mul-mod_self_right (x % suc n * c) (x / suc n * c) (suc n))

  -- a product with the unit c that is 0 modulo p
  no_factor : n < 61 → T (odd_prime (suc n)) → (c m : ℕ) → 0 < c → c ≤ n → m < suc n → m * c % suc n ≡ 0 → m ≡ 0
  no_factor small prime c m h k l e =
      let i : ℕ = c ^ (n - 1) in
      let one : m ≡ 1 * m = omega arith in
      let same : c * i * m ≡ m * c * i = omega arith in
      let none : 0 * i ≡ 0 = omega arith in
      sym (mod-eq_of_lt l) ∙ ap (λ (x : ℕ). x % suc n) one
      ∙ ap (λ (x : ℕ). x * m % suc n) (sym (unit n c small prime h k)) ∙ mul_mod (c * i) m
      ∙ ap (λ (x : ℕ). x % suc n) same ∙ sym (mul_mod (m * c) i) ∙ ap (λ (x : ℕ). x * i % suc n) e ∙ ap (λ (x : ℕ). x % suc n) none ∙ mod-eq_of_lt (zero-lt-suc n)

  -- two numbers with one remainder differ by a multiple
  same_rest : (a b : ℕ) → a ≤ b → a % suc n ≡ b % suc n → (b - a) % suc n ≡ 0
  same_rest a b l e =
      let m : ℕ = a / suc n in
      let k : ℕ = b / suc n in
      let ea : a % suc n + m * suc n ≡ a = mod-add-div' a (suc n) in
      let eb : b % suc n + k * suc n ≡ b = mod-add-div' b (suc n) in
      let z : b - a ≡ 0 + (k - m) * suc n = more m k (a % suc n) (omega arith) (omega arith) in
      ap (λ (x : ℕ). x % suc n) z ∙ add-mul-mod_self_right 0 (k - m) (suc n) ∙ mod-eq_of_lt (zero-lt-suc n)
    where
      more : (m k r : ℕ) → r + m * suc n ≡ a → r + k * suc n ≡ b → b - a ≡ 0 + (k - m) * suc n
      more m k r x y = go (dec_lt k m)
        where
          go : Dec (k < m) → b - a ≡ 0 + (k - m) * suc n
          go (yes h) = omega (arith, row_in k m (suc n) h)
          go (no h) = let i : ℕ = k - m in let z : k ≡ m + i = omega arith in let w : k * suc n ≡ (m + i) * suc n = ap (λ (x : ℕ). x * suc n) z in omega arith

  module _ (small : n < 61) (prime : T (odd_prime (suc n))) (d : ℕ) (h : 1 ≤ d) (k : d ≤ n) where
    -- p steps from any place come to no place twice
    pub places_differ : (i j : ℕ) → i < j → j < i + suc n → walk_place n d i ≢ walk_place n d j
    unfolding walk_place
    places_differ i j l g e =
        let c : ℕ = suc n - d in
        let m : ℕ = j - i in
        let y : j ≡ i + m = omega arith in
        let x : j * c ≡ (i + m) * c = ap (λ (u : ℕ). u * c) y in
        let f : n + i * c ≤ n + j * c = omega arith in
        let z : n + j * c - (n + i * c) ≡ m * c = omega arith in
        let w : m ≡ 0 = no_factor small prime c m (omega arith) (omega arith) (omega arith) (ap (λ (u : ℕ). u % suc n) (sym z) ∙ same_rest (n + i * c) (n + j * c) f e) in
        omega arith

    -- and each place is come to
    pub place_reached : (q : ℕ) → q < suc n → (i : ℕ) × (1 ≤ i) × (i ≤ suc n) × (walk_place n d i ≡ q)
    unfolding walk_place
    place_reached q l = go (dec_lt 0 t)
      where
        c : ℕ
        c = suc n - d

        t : ℕ
        t = (q + 1) * c ^ (n - 1) % suc n

        here : (n + t * c) % suc n ≡ q
        here =
            let i : ℕ = c ^ (n - 1) in
            let one : c * i % suc n ≡ 1 = unit n c small prime (omega arith) (omega arith) in
            sym (add-mod-mod n (t * c) (suc n))
            ∙ ap (λ (x : ℕ). (n + x) % suc n)
            (mul_mod ((q + 1) * i) c ∙ ap (λ (x : ℕ). x % suc n) (omega arith) ∙ sym (mul_mod (c * i) (q + 1)) ∙ ap (λ (x : ℕ). x * (q + 1) % suc n) one)
            ∙ add-mod-mod n (1 * (q + 1)) (suc n) ∙ ap (λ (x : ℕ). x % suc n) (omega arith) ∙ add-mod_right q (suc n) ∙ mod-eq_of_lt l

        go : Dec (0 < t) → (i : ℕ) × (1 ≤ i) × (i ≤ suc n) × ((n + i * c) % suc n ≡ q)
        go (yes g) = (t, g, omega (arith, mod-lt ((q + 1) * c ^ (n - 1)) (zero-lt-suc n)), here)
        go (no g) =
            let z : t ≡ 0 = omega arith in
            let e : n + suc n * c ≡ n + c * suc n = omega arith in
            (suc n, omega arith, omega arith, ap (λ (x : ℕ). x % suc n) e ∙ add-mul-mod_self_right n c (suc n) ∙ ap (λ (x : ℕ). x % suc n) (omega arith) ∙ ap (λ (x : ℕ). (n + x * c) % suc n) (sym z) ∙ here)

  -- ---- what the walk finds

  pub walked_start : (d : ℕ) (f : ℕ → ℕ) → walked n d f (n - d) ≡ 0
  unfolding walked
  walked_start d f = ⊕_self (over n 0 d f (n - d))

  -- each next place by one XOR with the symbol of the place left
  pub walked_next : n < 61 → T (odd_prime (suc n)) → (d : ℕ) → 1 ≤ d → d ≤ n → (s : ℕ → ℕ) (q : ℕ) → q < n
      → walked n d (lane n s) q ⊕ s q ≡ walked n d (lane n s) ((q + (suc n - d)) % suc n)
  unfolding walked D
  walked_next small prime d h k s q l =
      let f : ℕ → ℕ = lane n s in
      let v : ℕ → ℕ = over n 0 d f in
      let hv : Periodic (suc n) v = act_periodic n (quot n 0 d) f (lane_periodic n s) in
      let c : ℕ = v (n - d) in
      let ne : 0 ≢ d = λ e. absurd (omega arith) in
      let z : q + 0 * n ≡ q = omega arith in
      let below : v (q + (suc n - d)) ≡ v q ⊕ f q =
      lower n v hv d q (omega arith) ∙ sym (cancel (v q) (v (q + d * n)))
      ∙ ap (λ (y : ℕ). v q ⊕ y) (ap (λ (y : ℕ). v y ⊕ v (q + d * n)) (sym z) ∙ divides n small prime 0 d f (omega arith) (omega arith) ne (lane_periodic n s) (lane_even n s) q) in
      ⊕_assoc (v q) c (s q) ∙ ap (λ (y : ℕ). v q ⊕ y) (⊕_comm c (s q) ∙ ap (λ (y : ℕ). y ⊕ c) (sym (lane_at n s q l))) ∙ sym (⊕_assoc (v q) (f q) c)
      ∙ ap (λ (y : ℕ). y ⊕ c) (sym below ∙ sym (at_mod n v hv (q + (suc n - d))))

  -- ---- the end: the sum of all places is the constant

  twice : (m c : ℕ) → sum (m * 2) (λ q. c) ≡ 0
  unfolding sum
  twice zero c = refl
  twice (suc m) c =
      let e : suc m * 2 ≡ suc (suc (m * 2)) = omega arith in
      ap (λ (j : ℕ). sum j (λ q. c)) e ∙ ⊕_assoc (sum (m * 2) (λ q. c)) c c ∙ ap₂ ◌⊕◌ (twice m c) (⊕_self c) ∙ ⊕_self 0

  same_at_each : (c : ℕ) → T (odd_prime (suc n)) → sum (suc n) (λ q. c) ≡ c
  same_at_each c prime =
      let o : suc n % 2 ≡ 1 = prime_odd (suc n) prime in
      let e : n ≡ n / 2 * 2 = omega arith in
      sum_back n (λ q. c) ∙ ap (λ (x : ℕ). x ⊕ c) (ap (λ (j : ℕ). sum j (λ q. c)) e ∙ twice (n / 2) c) ∙ zero_⊕ c

  -- g is the even v but for one c at each place: its sum is that c
  constant_found : T (odd_prime (suc n)) → (g v : ℕ → ℕ) (c : ℕ) → Even n v → ((q : ℕ) → q < suc n → g q ≡ v q ⊕ c)
      → (q : ℕ) → q < suc n → g q ⊕ sum (suc n) g ≡ v q
  constant_found prime g v c e h q l =
      ap₂ ◌⊕◌ (h q l) (sum_ext (suc n) h ∙ sum_add (suc n) v (λ q. c) ∙ ap₂ ◌⊕◌ e (same_at_each c prime) ∙ zero_⊕ c)
      ∙ ⊕_assoc (v q) c c ∙ ap (λ (x : ℕ). v q ⊕ x) (⊕_self c) ∙ ⊕_zero (v q)

  -- k walks added up
  walks_finish : T (odd_prime (suc n)) → (k : ℕ) (d : ℕ → ℕ) (s : ℕ → ℕ → ℕ) (g : ℕ → ℕ)
      → ((q : ℕ) → q < suc n → g q ≡ sum k (λ i. walked n (d i) (lane n (s i)) q))
      → (q : ℕ) → q < suc n → g q ⊕ sum (suc n) g ≡ sum k (λ i. over n 0 (d i) (lane n (s i)) q)
  unfolding walked
  walks_finish prime k d s g h =
      let v : ℕ → ℕ → ℕ = λ i. over n 0 (d i) (lane n (s i)) in
      let even : Even n (λ q. sum k (λ i. v i q)) =
      sum_swap (suc n) k (λ q i. v i q)
      ∙ sum_all k (λ i. act_even n (quot n 0 (d i)) (lane n (s i)) (lane_periodic n (s i)) (lane_even n (s i))) ∙ sum_none k in
      constant_found prime g (λ q. sum k (λ i. v i q)) (sum k (λ i. v i (n - d i))) even
      (λ q l. h q l ∙ sum_add k (λ i. v i q) (λ i. v i (n - d i)))

  -- ---- x^j + x^y is x^j (1 + x^(y-j)), and x^j moves the places

  gap_is : (j y : ℕ) → j ≤ y → y < suc n → gap n j y ≡ y - j
  unfolding gap
  gap_is j y h k =
      let e : y + (suc n - j) ≡ y - j + suc n = omega arith in
      let l : y - j < suc n = omega arith in
      ap (λ (x : ℕ). x % suc n) e ∙ add-mod_right (y - j) (suc n) ∙ mod-eq_of_lt l

  over_shift : (j y : ℕ) (f : ℕ → ℕ) → Periodic (suc n) f → j ≤ y → y < suc n → (t : ℕ) → over n j y f t ≡ over n 0 (y - j) f ((t + j) % suc n)
  unfolding quot
  over_shift j y f h k l t =
      let w : ℕ → ℕ = bit (inv (suc n) (y - j)) in
      let hv : Periodic (suc n) (act n w f) = act_periodic n w f h in
      let m : ℕ = (t + j) % suc n in
      let z : m ≡ m + 0 = omega arith in
      let g0 : gap n 0 (y - j) ≡ y - j = gap_is 0 (y - j) (omega arith) (omega arith) ∙ omega arith in
      ap (λ (c : ℕ). act n (turn n j (bit (inv (suc n) c))) f t) (gap_is j y k l)
      ∙ act_turn n j w f h t ∙ sym (at_mod n (act n w f) hv (t + j)) ∙ ap (act n w f) z ∙ sym (act_turn n 0 w f h m)
      ∙ ap (λ (c : ℕ). act n (turn n 0 (bit (inv (suc n) c))) f m) (sym g0)

  -- row t of parity j, from the walks over the data columns s i
  pub walks_parity : T (odd_prime (suc n)) → (r j k : ℕ) → j < r → k + r ≤ suc n → (s : ℕ → ℕ → ℕ) (g : ℕ → ℕ)
      → ((q : ℕ) → q < suc n → g q ≡ sum k (λ i. walked n (r - j + i) (lane n (s i)) q))
      → (t : ℕ) → g ((t + j) % suc n) ⊕ sum (suc n) g ≡ sum k (λ i. over n j (r + i) (lane n (s i)) t)
  walks_parity prime r j k h l s g e t =
      walks_finish prime k (λ i. r - j + i) s g e ((t + j) % suc n) (mod-lt (t + j) (zero-lt-suc n))
      ∙ sum_ext k (λ i m.
      let z : r + i - j ≡ r - j + i = omega arith in
      ap (λ (c : ℕ). over n 0 c (lane n (s i)) ((t + j) % suc n)) (sym z) ∙ sym (over_shift j (r + i) (lane n (s i)) (lane_periodic n (s i)) (omega arith) (omega arith) t))
