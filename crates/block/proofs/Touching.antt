-- Which data strips make up a parity strip, and how many parity strips a data strip touches.
-- Assumes nothing.
use Rattle.stripe.specs.declared.Params.{Params}
use Prim.Native.Nat.{ℕ, zero, suc, ◌+◌, ◌*◌, ◌%◌, ◌<◌, ◌≤◌}
use mathlib.Core.Bool.{Bool, true, false}
use mathlib.Core.Path.{◌≡◌, refl, sym, ap, subst, ◌∙◌, fun_ext}
use native.Mathlib.Omega.{arith}
use lib.Dec.{T, ltb}
use borrow.Author.Tests.{ltb-true}
use Rattle.laws.proofs.Sum.{sum_ext}
use Rattle.laws.specs.Bit.{bit, weight}
use Rattle.laws.specs.Choose.{choose}
use Rattle.laws.specs.Sum.{sum, pick, total}
use Rattle.algebra.proofs.Action.{act_word_inverse}
use Rattle.algebra.proofs.Touch.{touch_is, touches_some, weight_most}
use Rattle.algebra.specs.Column.{lane, coefficient}
use Rattle.algebra.specs.Divide.{over}
use Rattle.algebra.specs.Prime.{odd_prime}
use Rattle.algebra.specs.Word.{inverse_of, over_of, times_of}
use Rattle.stripe.specs.Layout.{rows}
use Rattle.stripe.specs.Params.{Admitted}
use Rattle.engine.proofs.Masked.{masked, mask_times}
use Rattle.engine.specs.Mask.{mask_of}
use Rattle.block.specs.Parity.{due}
use Rattle.block.specs.Touches.{touches, touch_word, count}

-- ---- a quotient's coefficient is the XOR of the rows of a mask

pub over_masked : (n a b t : ℕ) (s : ℕ → ℕ) → over n a b (lane n s) t ≡ sum n (λ u. pick (bit (mask_of (suc n) (inverse_of (suc n) a b) t) u) (s u))
over_masked n a b t s = sym (act_word_inverse n a b (lane n s) t) ∙ masked n (inverse_of (suc n) a b) t s

-- a lane is known by its n symbols
pub lane_ext : (n : ℕ) (f g : ℕ → ℕ) → ((u : ℕ) → u < n → f u ≡ g u) → lane n f ≡ lane n g
unfolding lane coefficient
lane_ext n f g h = fun_ext (λ t. by_test t (ltb (t % suc n) n) refl)
  where
    by_test : (t : ℕ) (b : Bool) → ltb (t % suc n) n ≡ b → choose b (f (t % suc n)) (sum n f) ≡ choose b (g (t % suc n)) (sum n g)
    by_test t true e = h (t % suc n) (ltb-true (t % suc n) n e)
    by_test t false e = sum_ext n h

-- parity depends only on the data, whatever is done with its lanes
pub due_agree : (q : Params) (d e : ℕ → ℕ → ℕ → ℕ) (j t x : ℕ) → ((i u : ℕ) → i < q.k → u < rows q → d i u x ≡ e i u x) → due q d j t x ≡ due q e j t x
unfolding due
due_agree q d e j t x h = sum_ext q.k (λ i l. rw (lane_ext (rows q) (λ u. d i u x) (λ u. e i u x) (λ u k. h i u l k)))

p_is : (q : Params) → Admitted q → q.p ≡ suc (rows q)
p_is q a = omega (arith, a.p_low)

-- coefficient t of (x^u + x^(p-1)) / (x^a + x^b) says whether row u is in the mask
touch_bit : (n a b t u : ℕ) → u < n → t < n → bit (mask_of (suc n) (inverse_of (suc n) a b) t) u ≡ bit (over_of (suc n) a b (times_of (suc n) u n 1)) t
touch_bit n a b t u h k = mask_times n u (inverse_of (suc n) a b) t h (omega arith) ∙ ap (λ (w : ℕ). bit w t) (sym (touch_is n a b u n))

-- parity strip (j, t) is the XOR of the data strips that touch it
pub due_touches : (q : Params) → Admitted q → (d : ℕ → ℕ → ℕ → ℕ) (j t x : ℕ) → t < rows q
    → due q d j t x ≡ sum q.k (λ i. sum (rows q) (λ u. pick (touches q i u j t) (d i u x)))
unfolding due touches touch_word
due_touches q a d j t x h =
    let n : ℕ = rows q in
    let w : ℕ → ℕ → ℕ → ℕ = λ p i u. bit (over_of p j (q.r + i) (times_of p u n 1)) t in
    sum_ext q.k (λ i l. over_masked n j (q.r + i) t (λ u. d i u x)
    ∙ sum_ext n (λ u k. ap (λ (b : ℕ). pick b (d i u x)) (touch_bit n j (q.r + i) t u k h ∙ ap (λ (p : ℕ). w p i u) (sym (p_is q a)))))

-- ---- how many

pub touches_each : (q : Params) (i t j : ℕ) → Admitted q → i < q.k → t < rows q → j < q.r → 1 ≤ weight (touch_word q i t j) (rows q)
unfolding touch_word
touches_each q i t j a h l k =
    let n : ℕ = rows q in
    let e = p_is q a in
    subst (λ (p : ℕ). 1 ≤ weight (over_of p j (q.r + i) (times_of p t n 1)) n) (sym e)
    (touches_some n (omega (arith, a.p_high, a.p_low)) (subst (λ (p : ℕ). T (odd_prime p)) e a.prime) j (q.r + i) t
    (omega (arith, a.fits), omega (arith, a.fits), omega arith) l)

total_least : (n m : ℕ) (f : ℕ → ℕ) → ((i : ℕ) → i < n → m ≤ f i) → n * m ≤ total n f
unfolding total
total_least zero m f h = omega arith
total_least (suc n) m f h = omega (arith, total_least n m f (λ i l. h i (omega arith)), h n (omega arith))

total_most : (n m : ℕ) (f : ℕ → ℕ) → ((i : ℕ) → i < n → f i ≤ m) → total n f ≤ n * m
unfolding total
total_most zero m f h = omega arith
total_most (suc n) m f h = omega (arith, total_most n m f (λ i l. h i (omega arith)), h n (omega arith))

-- "It lies from r to r(p-1)."
pub count_least : (q : Params) (i t : ℕ) → Admitted q → i < q.k → t < rows q → q.r ≤ count q i t
unfolding count
count_least q i t a h l = omega (arith, total_least q.r 1 (λ j. weight (touch_word q i t j) (rows q)) (λ j k. touches_each q i t j a h l k))

pub count_most : (q : Params) (i t : ℕ) → count q i t ≤ q.r * rows q
unfolding count
count_most q i t = total_most q.r (rows q) (λ j. weight (touch_word q i t j) (rows q)) (λ j k. weight_most (touch_word q i t j) (rows q))
