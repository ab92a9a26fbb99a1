-- What the functions on lanes of a strip and on the rows of a mask owe, over plain numbers and lists.
-- Assumes nothing.
use Prim.Native.Nat.{ℕ, zero, suc, min, ◌+◌, ◌-◌, ◌*◌, ◌/◌, ◌%◌, ◌^◌, ◌<◌, ◌≤◌}
use mathlib.Core.List.{List}
use mathlib.Core.Logic.{◌≢◌}
use mathlib.Core.Path.{◌≡◌, refl, sym, ap, ap₂, subst, ◌∙◌}
use native.Mathlib.Decide.{dec_lt, ℕ_discrete}
use native.Mathlib.Nat.{mod-eq_of_lt, mod-lt, add_comm, mul-le-mul, div-add-mod', div-div-eq-div-mul, div-eq_of_lt, div-one, mod-one, pow-suc, pow-succ'}
use native.Mathlib.Omega.{arith}
use lib.Arith.{digits_mod}
use lib.Bits.{bit_xor, bit_and, differ, and_mask, and_self, and_step, xor_add_and, xor_block, xor_step, xor_zero_r}
use lib.Count.{count_trailing_zeros, trailing_le, ones-le, under, ones, ones_in, ones_cat}
use lib.ListN.{length, get_or, take, drop, length-drop}
use lib.Pow.{pow_mono, pow_pos, high, mod-pow-add}
use borrow.Rule.Slice.PartMut.{mid_of, put_mid}
use lib.Seq.{length-take-le, get_or-take, get_or-drop, take_all}
use Rattle.laws.proofs.Mid.{get_or_mid, length_mid, mid_patched}
use Rattle.laws.proofs.Bit.{bit_digit, bit_low, bit_high, bit_mod, bit_of_xor, bit_zero}
use Rattle.laws.proofs.Place.{Place, place, before, inside, after}
use Rattle.laws.proofs.Rows.{row_in, next_row}
use Rattle.laws.proofs.Xor.{⊕_self, ⊕_zero}
use Rattle.laws.specs.Bit.{bit, weight}
use Rattle.laws.specs.Patch.{Patched}
use Rattle.laws.specs.Sum.{pick}
use Rattle.laws.specs.Xor.{◌⊕◌}
use Rattle.engine.specs.Strips.{scattered, Rows, Run, Spread, Scattered}

-- ---- the rows of a mask

one_at : (k : ℕ) → k < 64 → 1 * 2 ^ k % 2 ^ 64 ≡ 2 ^ k
one_at k h =
    let l : k ≤ 63 = omega arith in
    let g : 2 ^ k ≤ 2 ^ 63 = pow_mono l in
    let e : 1 * 2 ^ k ≡ 2 ^ k = omega arith in
    let f : 2 ^ k < 2 ^ 64 = omega arith in
    ap (λ (x : ℕ). x % 2 ^ 64) e ∙ mod-eq_of_lt f

pub one_some : (k : ℕ) → k ≤ 60 → 0 < 1 * 2 ^ k % 2 ^ 64
one_some k h = let l : k < 64 = omega arith in omega (arith, one_at k l, pow_pos k)

pub cut_is : (m k : ℕ) → k ≤ 60 → m % (1 * 2 ^ k % 2 ^ 64) ≡ m % 2 ^ k
cut_is m k h = let l : k < 64 = omega arith in ap (λ (x : ℕ). m % x) (one_at k l)

-- a bit that is set lies below the length of its number
bit_in : (u i k : ℕ) → u < 2 ^ k → bit u i ≡ 1 → i < k
unfolding bit
bit_in u i k h e =
    elim (dec_lt i k) [
      | yes l ↦ l
      | no l ↦
          let n : k ≤ i = omega arith in
          let g : u < 2 ^ i = omega (arith, pow_mono n) in
          let z : u / 2 ^ i ≡ 0 = div-eq_of_lt g in
          let d : ◌≡◌ {A = ℕ} 1 0 = sym e ∙ ap (λ (x : ℕ). x % 2) z in
          absurd (omega arith)
    ]

half_some : (x : ℕ) → 0 < x → x % 2 ≡ 0 → 0 < x / 2
half_some x h e = omega arith

half_lt : (x y : ℕ) → x < y * 2 → x / 2 < y
half_lt x y h = omega arith

odd_is : (x r : ℕ) → x % 2 ≡ suc r → x % 2 ≡ 1
odd_is x r e = omega arith

lowest_bit : (d x : ℕ) → 0 < x → x < 2 ^ d → bit x (count_trailing_zeros d x) ≡ 1
unfolding count_trailing_zeros bit
lowest_bit zero x h k = absurd (omega arith)
lowest_bit (suc d) x h k = go (x % 2) refl (λ (e : x % 2 ≡ 0). lowest_bit d (x / 2) (half_some x h e) (half_lt x (2 ^ d) (subst (λ (y : ℕ). x < y) (pow-suc 2 d) k)))
  where
    go : (r : ℕ) → x % 2 ≡ r → (x % 2 ≡ 0 → x / 2 / 2 ^ count_trailing_zeros d (x / 2) % 2 ≡ 1) → x / 2 ^ under r (count_trailing_zeros d (x / 2)) % 2 ≡ 1
    go zero e ih =
        let t = count_trailing_zeros d (x / 2) in
        ap (λ (y : ℕ). y % 2) (ap (λ (y : ℕ). x / y) (pow-succ' 2 t) ∙ sym (div-div-eq-div-mul x 2 (2 ^ t))) ∙ ih e
    go (suc r) e ih = ap (λ (y : ℕ). y % 2) (div-one x) ∙ odd_is x r e

pub cut_lt : (m k x : ℕ) → x ≡ m % 2 ^ k → x < 2 ^ k
cut_lt m k x e = subst (λ (y : ℕ). y < 2 ^ k) (sym e) (mod-lt m (pow_pos k))

-- the bits of 2 ^ j
power_is : (j : ℕ) → 2 ^ j ≡ 1 * 2 ^ j + 0
power_is j = omega arith

pub power_bit : (j : ℕ) → bit (2 ^ j) j ≡ 1
unfolding bit
power_bit j = ap (λ (x : ℕ). x / 2 ^ j % 2) (power_is j) ∙ ap (λ (x : ℕ). x % 2) (high 1 j (pow_pos j))

pub power_rest : (j i : ℕ) → i ≢ j → bit (2 ^ j) i ≡ 0
power_rest j i h = ap (λ (x : ℕ). bit x i) (power_is j) ∙ go (place j 1 i)
  where
    go : Place j 1 i → bit (1 * 2 ^ j + 0) i ≡ 0
    go (before l) = bit_low 1 j i (pow_pos j) l ∙ bit_zero i
    go (inside m l e) = absurd (h (omega arith))
    go (after l) =
        let m : ℕ = i - j - 1 in
        let e : i ≡ j + (1 + m) = omega arith in
        let f : 1 ≡ 0 * 2 ^ 1 + 1 = refl in
        ap (bit (1 * 2 ^ j + 0)) e ∙ bit_high 1 j (1 + m) (pow_pos j) ∙ ap (λ (x : ℕ). bit x (1 + m)) f ∙ bit_high 0 1 m {lo = 1} (omega arith) ∙ bit_zero m

flip_bit : (x q : ℕ) → bit x q ≡ 1 → bit (x ⊕ 2 ^ q) q ≡ 0
flip_bit x q e = bit_of_xor x (2 ^ q) q ∙ ap₂ (λ (a b : ℕ). a ⊕ b) e (power_bit q) ∙ ⊕_self 1

flip_rest : (x q i : ℕ) → i ≢ q → bit (x ⊕ 2 ^ q) i ≡ bit x i
flip_rest x q i h = bit_of_xor x (2 ^ q) i ∙ ap (λ (b : ℕ). bit x i ⊕ b) (power_rest q i h) ∙ ⊕_zero (bit x i)

flip_less : (x q : ℕ) → bit x q ≡ 1 → x ⊕ 2 ^ q < x
unfolding bit ◌⊕◌
flip_less x q e =
    let m : ℕ = x / 2 ^ q in
    let r : ℕ = x % 2 ^ q in
    let a : m * 2 ^ q + r ≡ x = div-add-mod' x (2 ^ q) in
    let y : ℕ = bit_xor m 1 in
    let n : bit_and m 1 ≡ 1 = and_mask m 1 ∙ e in
    let f : y + 1 ≡ m = let g : y + bit_and m 1 * 2 ≡ m + 1 = xor_add_and m 1 in omega arith in
    let c : bit_xor x (2 ^ q) ≡ y * 2 ^ q + r =
    ap₂ bit_xor (sym a) (power_is q) ∙ xor_block q m 1 r 0 (mod-lt x (pow_pos q)) (pow_pos q) ∙ ap (λ (z : ℕ). y * 2 ^ q + z) (xor_zero_r r) in
    let d : m * 2 ^ q ≡ y * 2 ^ q + 2 ^ q = ap (λ (z : ℕ). z * 2 ^ q) (sym f) ∙ next_row y (2 ^ q) in
    omega (arith, pow_pos q)

-- the first row that a mask of k rows names
module _ (x q k : ℕ) (some : 0 < x) (small : x < 2 ^ k) (few : k ≤ 60) (e : q ≡ count_trailing_zeros 64 x) where
  first_bit : bit x q ≡ 1
  first_bit =
      let n : k ≤ 64 = omega arith in
      let l : x < 2 ^ 64 = omega (arith, pow_mono n) in
      ap (bit x) e ∙ lowest_bit 64 x some l

  first_lt : q < k
  first_lt = bit_in x q k small first_bit

  module _ (y : ℕ) (f : y ≡ x ⊕ 2 ^ count_trailing_zeros 64 x) where
    later_is : y ≡ x ⊕ 2 ^ q
    later_is = f ∙ ap (λ (j : ℕ). x ⊕ 2 ^ j) (sym e)

    pub later_less : y < x
    later_less = subst (λ (z : ℕ). z < x) (sym later_is) (flip_less x q first_bit)

    pub later_small : y < 2 ^ k
    later_small = omega (arith, later_less)

pub first_fits : (x : ℕ) → count_trailing_zeros 64 x < 2 ^ 64
first_fits x = omega (arith, trailing_le 64 x)

-- x & (x - 1) is x without its lowest bit
odd_later : (x : ℕ) → x % 2 ≡ 1 → bit_and x (x - 1) ≡ bit_xor x 1
odd_later x e =
    let h : (x - 1) / 2 ≡ x / 2 = omega arith in
    let m : (x - 1) % 2 ≡ 0 = omega arith in
    let n : bit_and x 1 ≡ 1 = and_mask x 1 ∙ e in
    let y : bit_xor x 1 + bit_and x 1 * 2 ≡ x + 1 = xor_add_and x 1 in
    let a : bit_and x (x - 1) ≡ x / 2 * 2 + 0 =
    and_step x (x - 1) ∙ ap₂ (λ (i j : ℕ). bit_and (x / 2) i * 2 + j) h (ap₂ min e m) ∙ ap (λ (i : ℕ). i * 2 + 0) (and_self (x / 2)) in
    omega arith

even_later : (x t : ℕ) → 0 < x → x % 2 ≡ 0 → bit_and (x / 2) (x / 2 - 1) ≡ bit_xor (x / 2) (2 ^ t) → bit_and x (x - 1) ≡ bit_xor x (2 ^ suc t)
even_later x t s e ih =
    let h : (x - 1) / 2 ≡ x / 2 - 1 = omega arith in
    let m : (x - 1) % 2 ≡ 1 = omega arith in
    let p : 2 ^ suc t ≡ 2 ^ t * 2 = pow-suc 2 t in
    let i : 2 ^ suc t / 2 ≡ 2 ^ t = omega arith in
    let j : 2 ^ suc t % 2 ≡ 0 = omega arith in
    and_step x (x - 1) ∙ ap₂ (λ (a b : ℕ). bit_and (x / 2) a * 2 + b) h (ap₂ min e m) ∙ ap (λ (a : ℕ). a * 2 + 0) ih
    ∙ sym (xor_step x (2 ^ suc t) ∙ ap₂ (λ (a b : ℕ). bit_xor (x / 2) a * 2 + b) i (ap₂ differ e j))

lower_later : (d x : ℕ) → 0 < x → x < 2 ^ d → bit_and x (x - 1) ≡ bit_xor x (2 ^ count_trailing_zeros d x)
unfolding count_trailing_zeros
lower_later zero x h k = absurd (omega arith)
lower_later (suc d) x h k = go (x % 2) refl (λ (e : x % 2 ≡ 0). lower_later d (x / 2) (half_some x h e) (half_lt x (2 ^ d) (subst (λ (y : ℕ). x < y) (pow-suc 2 d) k)))
  where
    go : (r : ℕ) → x % 2 ≡ r → (x % 2 ≡ 0 → bit_and (x / 2) (x / 2 - 1) ≡ bit_xor (x / 2) (2 ^ count_trailing_zeros d (x / 2)))
        → bit_and x (x - 1) ≡ bit_xor x (2 ^ under r (count_trailing_zeros d (x / 2)))
    go zero e ih = even_later x (count_trailing_zeros d (x / 2)) h e (ih e)
    go (suc r) e ih = odd_later x (odd_is x r e)

pub later_and : (x : ℕ) → 0 < x → x < 2 ^ 64 → bit_and x (x - 1) ≡ x ⊕ 2 ^ count_trailing_zeros 64 x
unfolding ◌⊕◌
later_and x h k = lower_later 64 x h k

-- how many rows a mask names
digit_ones : (d : ℕ) → d < 2 → ones d ≡ d
unfolding ones ones_in
digit_ones zero h = refl
digit_ones (suc zero) h = refl
digit_ones (suc (suc d)) h = absurd (omega arith)

weight_ones : (m k : ℕ) → ones (m % 2 ^ k) ≡ weight m k
unfolding weight bit ones ones_in
weight_ones m zero = ap ones (mod-one m)
weight_ones m (suc k) =
    let z : suc k ≡ 1 + k = omega arith in
    ap (λ (j : ℕ). ones (m % 2 ^ j)) z ∙ ap ones (mod-pow-add m 1 k) ∙ ones_cat k (m / 2 ^ k % 2 ^ 1) (m % 2 ^ k) (mod-lt m (pow_pos k))
    ∙ ap₂ (λ (a b : ℕ). a + b) (digit_ones (bit m k) (bit_digit m k)) (weight_ones m k) ∙ add_comm (bit m k) (weight m k)

pub named_is : (m k x : ℕ) → x ≡ m % 2 ^ k → ones x ≡ weight m k
named_is m k x e = ap ones e ∙ weight_ones m k

pub named_fits : (m k x : ℕ) → k ≤ 60 → x ≡ m % 2 ^ k → ones x < 2 ^ 64
named_fits m k x h e = omega (arith, ones-le k x (cut_lt m k x e))

-- ---- a run of lanes

-- what is still to be added to the rows that `left` names makes what the rows that the mask names are to have
pub record Spreading (s t run : List ℕ) (from b rows mask left : ℕ) : Type 0 where
  pub len : length t ≡ length s
  pub inner : (q x : ℕ) → q < rows → x < length run
      → get_or t (from + q * b + x) 0 ⊕ pick (bit left q) (get_or run x 0) ≡ get_or s (from + q * b + x) 0 ⊕ pick (bit mask q) (get_or run x 0)
  pub other : (o : ℕ) → ((q x : ℕ) → q < rows → x < length run → o ≢ from + q * b + x) → get_or t o 0 ≡ get_or s o 0

pub spreading_none : (s run : List ℕ) (from b rows mask left : ℕ) → left ≡ mask % 2 ^ rows → Spreading s s run from b rows mask left
spreading_none s run from b rows mask left e = record {
  len = refl;
  inner = λ q x h k. ap (λ (c : ℕ). get_or s (from + q * b + x) 0 ⊕ pick c (get_or run x 0)) (ap (λ (m : ℕ). bit m q) e ∙ bit_mod mask rows q h);
  other = λ o n. refl;
}

module _ (s t run : List ℕ) (from b rows mask left q : ℕ) (R : Run s run from b rows) (S : Spreading s t run from b rows mask left)
    (some : 0 < left) (small : left < 2 ^ rows) (first : q ≡ count_trailing_zeros 64 left) where
  set_bit : bit left q ≡ 1
  set_bit = first_bit left q rows some small R.few first

  pub run_inside : from + q * b + length run ≤ length t
  run_inside = omega (arith, R.inside, S.len, row_in q rows b (first_lt left q rows some small R.few first))

  pub run_row : length s < 2 ^ 64 → q * b < 2 ^ 64
  run_row f = omega (arith, run_inside, S.len)

  pub run_start : length s < 2 ^ 64 → from + q * b < 2 ^ 64
  run_start f = omega (arith, run_inside, S.len)

  pub run_end : length s < 2 ^ 64 → from + q * b + length run < 2 ^ 64
  run_end f = omega (arith, run_inside, S.len)

  pub run_whole : (k : ℕ) → k ≡ length run → length (mid_of (from + q * b) k t) ≡ length run
  run_whole k e = length_mid t (from + q * b) k (omega (arith, run_inside)) ∙ e

  module _ (v : List ℕ) (k next : ℕ) (z : k ≡ length run)
      (A : Patched (mid_of (from + q * b) k t) v 0 (length (mid_of (from + q * b) k t)) (λ i. get_or (mid_of (from + q * b) k t) i 0 ⊕ get_or run i 0))
      (e : next ≡ left ⊕ 2 ^ count_trailing_zeros 64 left) where
    abbrev u : List ℕ
    u = put_mid (from + q * b) k t v

    row_put : Patched t u (from + q * b) k (λ x. get_or t (from + q * b + x) 0 ⊕ get_or run x 0)
    row_put =
        mid_patched t (from + q * b) k v _ _ (omega (arith, run_inside)) (rw (length_mid t (from + q * b) k (omega (arith, run_inside))) at A)
        (λ i h. ap (λ (y : ℕ). y ⊕ get_or run i 0) (get_or_mid t (from + q * b) k i h))

    turned : next ≡ left ⊕ 2 ^ q
    turned = later_is left q rows some small R.few first next e

    row_there : (j x : ℕ) → j ≢ q → x < length run → get_or u (from + j * b + x) 0 ≡ get_or t (from + j * b + x) 0
    row_there j x n h = go (place q 1 j)
      where
        go : Place q 1 j → get_or u (from + j * b + x) 0 ≡ get_or t (from + j * b + x) 0
        go (before f) = row_put.below _ (omega (arith, R.within, row_in j q b f))
        go (inside i f g) = absurd (n (omega arith))
        go (after f) = let g : q < j = omega arith in row_put.above _ (omega (arith, R.within, row_in q j b g))

    inner_next : (j x : ℕ) → x < length run
        → get_or u (from + j * b + x) 0 ⊕ pick (bit next j) (get_or run x 0) ≡ get_or t (from + j * b + x) 0 ⊕ pick (bit left j) (get_or run x 0)
    unfolding pick
    inner_next j x h =
        elim (ℕ_discrete j q) [
          | yes f ↦
              let y : ℕ = get_or run x 0 in
              let here : get_or u (from + j * b + x) 0 ≡ get_or t (from + j * b + x) 0 ⊕ y =
              subst (λ (i : ℕ). get_or u (from + i * b + x) 0 ≡ get_or t (from + i * b + x) 0 ⊕ y) (sym f) (row_put.inner x (omega arith)) in
              let gone : bit next j ≡ 0 = ap₂ bit turned f ∙ flip_bit left q set_bit in
              let was : bit left j ≡ 1 = ap (bit left) f ∙ set_bit in
              ap₂ (λ (a c : ℕ). a ⊕ pick c y) here gone ∙ ⊕_zero (get_or t (from + j * b + x) 0 ⊕ y)
              ∙ ap (λ (c : ℕ). get_or t (from + j * b + x) 0 ⊕ pick c y) (sym was)
          | no f ↦ ap₂ (λ (a c : ℕ). a ⊕ pick c (get_or run x 0)) (row_there j x f h) (ap (λ (m : ℕ). bit m j) turned ∙ flip_rest left q j f)
        ]

    other_next : (o : ℕ) → ((j x : ℕ) → j < rows → x < length run → o ≢ from + j * b + x) → get_or u o 0 ≡ get_or t o 0
    other_next o n = go (place (from + q * b) k o)
      where
        go : Place (from + q * b) k o → get_or u o 0 ≡ get_or t o 0
        go (before f) = row_put.below o f
        go (inside i f g) = absurd (n q i (bit_in left q rows small set_bit) (omega arith) g)
        go (after f) = row_put.above o f

    pub spreading_more : Spreading s (put_mid (from + q * b) k t v) run from b rows mask next
    spreading_more = record {
      len = row_put.len ∙ S.len;
      inner = λ j x h g. inner_next j x g ∙ S.inner j x h g;
      other = λ o n. other_next o n ∙ S.other o n;
    }

pub spreading_end : (s t run : List ℕ) (from b rows mask left : ℕ) → Spreading s t run from b rows mask left → left ≤ 0 → Spread s t run from b rows mask
unfolding pick
spreading_end s t run from b rows mask left S h =
    let z : left ≡ 0 = omega arith in
    record {
      len = S.len;
      inner = λ q x n g.
          sym (⊕_zero (get_or t (from + q * b + x) 0))
          ∙ ap (λ (c : ℕ). get_or t (from + q * b + x) 0 ⊕ pick c (get_or run x 0)) (sym (ap (λ (m : ℕ). bit m q) z ∙ bit_zero q))
          ∙ S.inner q x n g;
      other = S.other;
    }

-- ---- the first lanes of a strip

-- a run of a run
pub run_front : (s run block : List ℕ) (from b rows n : ℕ) → Run s run from b rows → block ≡ take n run → n ≤ length run → Run s block from b rows
run_front s run block from b rows n R e h =
    let l : length (take n run) ≡ n = length-take-le n run h in
    rw e (record { inside = omega (arith, R.inside); few = R.few; within = omega (arith, R.within) })

-- none yet
pub lanes_none : (s strip : List ℕ) (at b rows mask : ℕ) → Spread s s (take 0 strip) at b rows mask
lanes_none s strip at b rows mask = record { len = refl; inner = λ q x h k. absurd (omega arith); other = λ o n. refl }

-- bytes of two lanes differ
apart : (b at q x j y : ℕ) → x < b → y < b → x ≢ y → at + q * b + x ≢ at + j * b + y
apart b at q x j y h k n e =
    let f : q * b + x ≡ j * b + y = omega arith in
    n (sym (digits_mod q h) ∙ ap (λ (m : ℕ). m % b) f ∙ digits_mod j k)

-- the lanes that are left
rest_is : (strip : List ℕ) (l : ℕ) → take (length strip - l) (drop l strip) ≡ drop l strip
rest_is strip l = let d : length (drop l strip) ≡ length strip - l = length-drop l strip in take_all (length strip - l) (drop l strip) (omega arith)

pub lanes_within : (strip : List ℕ) (l w : ℕ) → l < length strip → w ≤ length (take (length strip - l) (drop l strip)) → l + w ≤ length strip
lanes_within strip l w h k = let n : w ≤ length (drop l strip) = rw rest_is at k in omega (arith, length-drop l strip)

pub lanes_less : (strip : List ℕ) (l w : ℕ) → l < length strip → w ≤ length (take (length strip - l) (drop l strip)) → (0 < length (take (length strip - l) (drop l strip)) → 0 < w)
    → length strip - (l + w) < length strip - l
lanes_less strip l w h k f =
    let e : length (take (length strip - l) (drop l strip)) ≡ length strip - l = ap (λ (r : List ℕ). length r) (rest_is strip l) ∙ length-drop l strip in
    let g : 0 < length (take (length strip - l) (drop l strip)) = omega arith in
    omega (arith, f g)

module _ (s t u strip : List ℕ) (at rows mask l w : ℕ) (A : Spread s t (take l strip) at (length strip) rows mask)
    (C : Spread t u (take w (take (length strip - l) (drop l strip))) (at + l) (length strip) rows mask) (h : l < length strip)
    (c : w ≤ length (take (length strip - l) (drop l strip))) where
  B : Spread t u (take w (drop l strip)) (at + l) (length strip) rows mask
  B = rw rest_is at C

  k : w ≤ length (drop l strip)
  k = rw rest_is at c

  front : length (take l strip) ≡ l
  front = length-take-le l strip (omega arith)

  back : length (take w (drop l strip)) ≡ w
  back = length-take-le w (drop l strip) k

  both : length (take (l + w) strip) ≡ l + w
  both = length-take-le (l + w) strip (omega (arith, k, length-drop l strip))

  -- the bytes of lanes below l, and of the others
  lower : (q x : ℕ) → q < rows → x < l → get_or u (at + q * length strip + x) 0 ≡ get_or s (at + q * length strip + x) 0 ⊕ pick (bit mask q) (get_or (take (l + w) strip) x 0)
  lower q x n g =
      let z : get_or (take l strip) x 0 ≡ get_or (take (l + w) strip) x 0 = get_or-take l strip x 0 g ∙ sym (get_or-take (l + w) strip x 0 (omega arith)) in
      B.other (at + q * length strip + x) (λ j y f i p. apart (length strip) at q x j (l + y) (omega arith) (omega (arith, k, back, length-drop l strip)) (omega arith) (omega arith))
      ∙ A.inner q x n (omega (arith, front)) ∙ ap (λ (v : ℕ). get_or s (at + q * length strip + x) 0 ⊕ pick (bit mask q) v) z

  upper : (q x : ℕ) → q < rows → l ≤ x → x < l + w → get_or u (at + q * length strip + x) 0 ≡ get_or s (at + q * length strip + x) 0 ⊕ pick (bit mask q) (get_or (take (l + w) strip) x 0)
  upper q x n f g =
      let y : ℕ = x - l in
      let e : at + q * length strip + x ≡ at + l + q * length strip + y = omega arith in
      let i : l + y ≡ x = omega arith in
      let z : get_or (take w (drop l strip)) y 0 ≡ get_or (take (l + w) strip) x 0 =
      get_or-take w (drop l strip) y 0 (omega arith) ∙ get_or-drop l strip y 0 ∙ ap (λ (o : ℕ). get_or strip o 0) i ∙ sym (get_or-take (l + w) strip x 0 g) in
      ap (λ (o : ℕ). get_or u o 0) e ∙ B.inner q y n (omega (arith, back))
      ∙ ap₂ (λ (o v : ℕ). get_or t o 0 ⊕ pick (bit mask q) v) (sym e) z
      ∙ ap (λ (v : ℕ). v ⊕ pick (bit mask q) (get_or (take (l + w) strip) x 0))
      (A.other (at + q * length strip + x) (λ j y f i p. apart (length strip) at q x j y (omega (arith, k, length-drop l strip)) (omega (arith, front)) (omega (arith, front)) (omega arith)))

  pub lanes_more : Spread s u (take (l + w) strip) at (length strip) rows mask
  lanes_more = record {
    len = B.len ∙ A.len;
    inner = λ q x n g. go q x n (omega (arith, both)) (dec_lt x l);
    other = λ o n.
        B.other o (λ q x f g. λ z. n q (l + x) f (omega (arith, back, both)) (omega arith))
        ∙ A.other o (λ q x f g. n q x f (omega (arith, front, both)));
  }
    where
      go : (q x : ℕ) → q < rows → x < l + w → Dec (x < l) → get_or u (at + q * length strip + x) 0 ≡ get_or s (at + q * length strip + x) 0 ⊕ pick (bit mask q) (get_or (take (l + w) strip) x 0)
      go q x n m (yes g) = lower q x n g
      go q x n m (no g) = upper q x n (omega arith) m

row_lt : (o n b : ℕ) → o < n * b → o / b < n
row_lt o n b h =
    elim (dec_lt (o / b) n) [
      | yes k ↦ k
      | no k ↦ absurd (omega (arith, div-add-mod' o b, mul-le-mul {n₁ = n} {m₁ = b} {n₂ = o / b} {m₂ = b} (omega arith) (omega arith)))
    ]

width_some : (i n b : ℕ) → i < n * b → 0 < b
width_some i n zero h = absurd (omega arith)
width_some i n (suc b) h = omega arith

pub scatter_end : (s t strip : List ℕ) (at rows mask l x : ℕ) → Spread s t (take l strip) at (length strip) rows mask → length strip ≤ l → x ≡ weight mask rows
    → Scattered s t strip at rows mask x
unfolding scattered
scatter_end s t strip at rows mask l x C k e =
    let A : Spread s t strip at (length strip) rows mask = subst (λ (r : List ℕ). Spread s t r at (length strip) rows mask) (take_all l strip k) C in
    record {
      count = e;
      bytes = record {
        len = A.len;
        below = λ o n. A.other o (λ q y f g. λ z. omega arith);
        inner = λ i n.
            let b : ℕ = length strip in
            let q : ℕ = i / b in
            let some : 0 < b = width_some i rows b n in
            let y : i % b < b = mod-lt i some in
            let z : at + i ≡ at + i / b * b + i % b = omega (arith, div-add-mod' i b) in
            ap (λ (o : ℕ). get_or t o 0) z ∙ A.inner q (i % b) (row_lt i rows b n) y
            ∙ ap (λ (o : ℕ). get_or s o 0 ⊕ pick (bit mask q) (get_or strip (i % b) 0)) (sym z);
        above = λ o n. A.other o (λ q y f g. λ z. omega (arith, row_in q rows (length strip) f));
      };
    }

pub scatter_run : (s t strip : List ℕ) (at rows l : ℕ) → Rows s strip at rows → length t ≡ length s → l < length strip
    → Run t (take (length strip - l) (drop l strip)) (at + l) (length strip) rows
scatter_run s t strip at rows l R e h =
    let d : length (drop l strip) ≡ length strip - l = length-drop l strip in
    rw rest_is (record { inside = omega (arith, R.inside); few = R.few; within = omega arith })
