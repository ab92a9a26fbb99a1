-- What the tests of `sections` and `read` show of their definitions.
-- Assumes nothing.
use Prim.Native.Nat.{ℕ, ◌<◌, ◌≤◌}
use mathlib.Core.Bool.{true, false}
use mathlib.Core.List.{List}
use mathlib.Core.Path.{◌≡◌, sym, ap, ◌∙◌}
use native.Mathlib.Omega.{arith}
use lib.Dec.{eqb, ltb}
use lib.ListN.{length}
use borrow.Author.Tests.{lt-ltb, le-ltb, eq-eqb, ne_eqb}
use Rattle.std.specs.Prelude.{Result, Ok, Err}
use Rattle.laws.specs.Number.{u16}
use Rattle.refusal.specs.declared.Refusal.{Refusal}
use Rattle.refusal.specs.declared.Refusal.TheVariants.{Cut, Tail, Count}
use Rattle.stripe.specs.Layout.{data_count_at, parity_count_at, image_length}
use Rattle.stripe.specs.Params.{checked_of}
use Rattle.stripe.specs.Reading.{sections_of, with_params, read_of}
use Rattle.stripe.specs.declared.Params.{Params}

-- a test's value, of a number x that a call gave
is : (x y z : ℕ) → x ≡ y → x ≡ z → eqb y z ≡ true
is x y z e f = eq-eqb y z (sym e ∙ f)

is_not : (x y z : ℕ) → x ≡ y → (x ≡ z → ⊥) → eqb y z ≡ false
is_not x y z e n = ne_eqb y z (λ f. n (e ∙ f))

-- ---- the ways out of `sections`: n is the length that is due, x, y and z the counts of sections 2, 3 and 4

module _ (s : List ℕ) (q : Params) (n : ℕ) (e : n ≡ image_length q) where
  pub cut : length s < n → Err Cut ≡ sections_of s q
  unfolding sections_of
  cut h = simp (lt-ltb (length s) (image_length q) (rw e at h))

  pub tail : n < length s → Err Tail ≡ sections_of s q
  unfolding sections_of
  tail h = let g : image_length q < length s = rw e at h in simp (le-ltb (length s) (image_length q) (omega arith), lt-ltb (image_length q) (length s) g)

  module _ (l : n ≤ length s) (m : length s ≤ n) where
    not_cut : ltb (length s) (image_length q) ≡ false
    not_cut = le-ltb (length s) (image_length q) (rw e at l)

    not_tail : ltb (image_length q) (length s) ≡ false
    not_tail = le-ltb (image_length q) (length s) (rw e at m)

    module _ (x : ℕ) (hx : x ≡ u16 s 10) where
      pub count_2 : (x ≡ q.k → ⊥) → Err Count ≡ sections_of s q
      unfolding sections_of
      count_2 h = simp (not_cut, not_tail, is_not x (u16 s 10) q.k hx h)

      module _ (kx : x ≡ q.k) (y a : ℕ) (f : a ≡ data_count_at q) (hy : y ≡ u16 s a) where
        second : eqb (u16 s 10) q.k ≡ true
        second = is x (u16 s 10) q.k hx kx

        at_data : y ≡ u16 s (data_count_at q)
        at_data = rw f at hy

        pub count_3 : (y ≡ q.k → ⊥) → Err Count ≡ sections_of s q
        unfolding sections_of
        count_3 h = simp (not_cut, not_tail, second, is_not y (u16 s (data_count_at q)) q.k at_data h)

        module _ (ky : y ≡ q.k) (z d : ℕ) (g : d ≡ parity_count_at q) (hz : z ≡ u16 s d) where
          third : eqb (u16 s (data_count_at q)) q.k ≡ true
          third = is y (u16 s (data_count_at q)) q.k at_data ky

          at_parity : z ≡ u16 s (parity_count_at q)
          at_parity = rw g at hz

          pub count_4 : (z ≡ q.r → ⊥) → Err Count ≡ sections_of s q
          unfolding sections_of
          count_4 h = simp (not_cut, not_tail, second, third, is_not z (u16 s (parity_count_at q)) q.r at_parity h)

          pub whole : z ≡ q.r → Ok q ≡ sections_of s q
          unfolding sections_of
          whole h = simp (not_cut, not_tail, second, third, is z (u16 s (parity_count_at q)) q.r at_parity h)

-- ---- the ways out of `read`: x is the first count, v what the test of the parameters gave

module _ (s : List ℕ) where
  pub none : length s < 2 → Err Cut ≡ read_of s
  unfolding read_of
  none h = simp (lt-ltb (length s) 2 h)

  module _ (x : ℕ) (hx : x ≡ u16 s 0) where
    pub count_1 : 2 ≤ length s → (x ≡ 4 → ⊥) → Err Count ≡ read_of s
    unfolding read_of
    count_1 l h = simp (le-ltb (length s) 2 l, is_not x (u16 s 0) 4 hx h)

    module _ (four : x ≡ 4) where
      pub short : 2 ≤ length s → length s < 10 → Err Cut ≡ read_of s
      unfolding read_of
      short l h = simp (le-ltb (length s) 2 l, is x (u16 s 0) 4 hx four, lt-ltb (length s) 10 h)

      module _ (m : 10 ≤ length s) (v : Result Params Refusal) (e : v ≡ checked_of (u16 s 2) (u16 s 4) (u16 s 6) (u16 s 8)) where
        given : read_of s ≡ with_params s v
        unfolding read_of
        given = simp (le-ltb (length s) 2 (omega arith), is x (u16 s 0) 4 hx four, le-ltb (length s) 10 m) (ap (with_params s) (sym e))

        pub refused_read : (n : Refusal) → v ≡ Err n → Err n ≡ read_of s
        unfolding with_params
        refused_read n f = sym (given ∙ ap (with_params s) f)

        pub sections_read : (q : Params) (w : Result Params Refusal) → v ≡ Ok q → w ≡ sections_of s q → w ≡ read_of s
        unfolding with_params
        sections_read q w f g = g ∙ sym (given ∙ ap (with_params s) f)
