-- "its lower bound r becomes the number of present parity columns"
-- Assumes nothing.
use Prim.Native.Nat.{ℕ, zero, suc, ◌+◌, ◌*◌, ◌<◌, ◌≤◌}
use mathlib.Core.Bool.{Bool, true, false}
use native.Mathlib.Omega.{arith}
use Rattle.laws.specs.Bit.{weight}
use Rattle.laws.specs.Choose.{choose}
use Rattle.laws.specs.Sum.{total}
use Rattle.algebra.proofs.Touch.{weight_most}
use Rattle.stripe.specs.Layout.{rows}
use Rattle.stripe.specs.Params.{Admitted}
use Rattle.stripe.specs.declared.Params.{Params}
use Rattle.block.proofs.Touching.{touches_each}
use Rattle.block.specs.Touches.{touch_word}
use Rattle.pattern.specs.Pattern.{is_lost}
use Rattle.pattern.proofs.Single.{weight_zero}
use Rattle.present.specs.Present.{present_word, present_count, present_parities}

-- each of n numbers f j lies from g j to g j * c
total_between : (n c : ℕ) (f g : ℕ → ℕ) → ((j : ℕ) → j < n → (g j ≤ f j) × (f j ≤ g j * c)) → (total n g ≤ total n f) × (total n f ≤ total n g * c)
unfolding total
total_between zero c f g h = (omega arith, omega arith)
total_between (suc n) c f g h =
    let r = total_between n c f g (λ j l. h j (omega arith)) in
    let e = h n (omega arith) in
    (omega arith, omega arith)

module _ (q : Params) (m i t : ℕ) (a : Admitted q) (hi : i < q.k) (ht : t < rows q) where
  each : (j : ℕ) → j < q.r → (choose (is_lost m (q.k + j)) 0 1 ≤ weight (present_word q m i t j) (rows q)) × (weight (present_word q m i t j) (rows q) ≤ choose (is_lost m (q.k + j)) 0 1 * rows q)
  unfolding present_word
  each j h = go (is_lost m (q.k + j))
    where
      go : (c : Bool) → (choose c 0 1 ≤ weight (choose c 0 (touch_word q i t j)) (rows q)) × (weight (choose c 0 (touch_word q i t j)) (rows q) ≤ choose c 0 1 * rows q)
      go true = (omega arith, omega (arith, weight_zero (rows q)))
      go false = (touches_each q i t j a hi ht h, omega (arith, weight_most (touch_word q i t j) (rows q)))

  bounds : (present_parities q m ≤ present_count q m i t) × (present_count q m i t ≤ present_parities q m * rows q)
  unfolding present_parities present_count
  bounds = total_between q.r (rows q) (λ j. weight (present_word q m i t j) (rows q)) (λ j. choose (is_lost m (q.k + j)) 0 1) each

  -- "It lies from" the number of present parity columns to that number times p-1
  pub present_least : present_parities q m ≤ present_count q m i t
  present_least = bounds.0

  pub present_most : present_count q m i t ≤ present_parities q m * rows q
  present_most = bounds.1
