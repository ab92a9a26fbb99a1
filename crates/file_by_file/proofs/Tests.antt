-- What the tests of the functions on one file show of their definitions.
-- Assumes nothing.
use Prim.Native.Nat.{ℕ, ◌+◌, ◌-◌, ◌*◌, ◌/◌, ◌%◌, ◌^◌, ◌<◌, ◌≤◌}
use mathlib.Core.Bool.{Bool, true, false, not}
use mathlib.Core.List.{List}
use mathlib.Core.Path.{◌≡◌, refl, sym, ap, ◌∙◌}
use native.Mathlib.Nat.{mod-eq_of_lt}
use native.Mathlib.Omega.{arith}
use lib.Bits.{bit_xor}
use lib.Dec.{eqb}
use lib.ListN.{length}
use lib.Pow.{pow-lt}
use borrow.Author.Tests.{lt-ltb, le-ltb, eq-eqb, ne_eqb, not-true, not-false}
use Rattle.std.specs.Prelude.{Result, Ok, Err}
use Rattle.laws.specs.Bit.{bit}
use Rattle.laws.specs.Number.{u16}
use Rattle.laws.specs.Xor.{◌⊕◌}
use Rattle.refusal.specs.declared.Refusal.{Refusal}
use Rattle.refusal.specs.declared.Refusal.TheVariants.{Cut, Count, Column, Foreign, Twice}
use Rattle.stripe.specs.Params.{checked_of}
use Rattle.stripe.specs.declared.Params.{Params}
use Rattle.column_file.specs.File.{flag, carried, number_at, flag_at, carried_at, strips_count_at, file_length}
use Rattle.file_by_file.specs.Files.{alike, counted, body_step, column_step, checked_step, step_of}
use Rattle.file_by_file.specs.Inner.{Start, Whole}
use Rattle.file_by_file.specs.declared.File.{File}

-- a test's value, of numbers x and z that calls gave
is : (x y z w : ℕ) → x ≡ y → z ≡ w → x ≡ z → eqb y w ≡ true
is x y z w e f g = eq-eqb y w (sym e ∙ g ∙ f)

is_not : (x y z w : ℕ) → x ≡ y → z ≡ w → (x ≡ z → ⊥) → eqb y w ≡ false
is_not x y z w e f n = ne_eqb y w (λ g. n (e ∙ g ∙ sym f))

-- ---- the ways out of `is_counted`

module _ (s : List ℕ) (at : ℕ) (q : Params) (n c x : ℕ) (hc : c ≡ carried q n) (hx : x ≡ u16 s (at + carried_at)) where
  pub one_off : (x ≡ c → ⊥) → eqb x c ≡ counted s at q n
  unfolding counted
  one_off g = simp (is_not x _ c _ hx hc g, ne_eqb x c g)

  pub well_counted : x ≡ c → (m y : ℕ) → m ≡ strips_count_at q n → y ≡ u16 s (at + m) → eqb y (q.p - 1) ≡ counted s at q n
  unfolding counted
  well_counted e m y hm hy = let there : y ≡ u16 s (at + strips_count_at q n) = rw hm at hy in simp (is x _ c _ hx hc e, there)

-- ---- the ways out of `read_column`

module _ (s : List ℕ) (at met : ℕ) (q : Params) (n : ℕ) where
  pub no_column : q.k + q.r ≤ n → Err Column ≡ column_step s at met q n
  unfolding column_step
  no_column h = simp (le-ltb n (q.k + q.r) h)

  module _ (h : n < q.k + q.r) (v : Bool) (hv : v ≡ alike s at) where
    pub foreign : not v ≡ true → Err Foreign ≡ column_step s at met q n
    unfolding column_step
    foreign g = simp (lt-ltb n (q.k + q.r) h, sym hv ∙ not-true v g)

    module _ (gv : not v ≡ false) (x f : ℕ) (hx : x ≡ u16 s (at + flag_at)) (hf : f ≡ flag q n) where
      pub misflagged : (x ≡ f → ⊥) → Err Foreign ≡ column_step s at met q n
      unfolding column_step
      misflagged g = simp (lt-ltb n (q.k + q.r) h, sym hv ∙ not-false v gv, is_not x _ f _ hx hf g)

      module _ (ef : x ≡ f) where
        pub twice : (met / 2 ^ n % 2 ≡ 0 → ⊥) → Err Twice ≡ column_step s at met q n
        unfolding column_step bit
        twice g = simp (lt-ltb n (q.k + q.r) h, sym hv ∙ not-false v gv, is x _ f _ hx hf ef, ne_eqb (met / 2 ^ n % 2) 0 g)

        pub body_read : met / 2 ^ n % 2 ≡ 0 → (w : Result File Refusal) → w ≡ body_step s at q n → w ≡ column_step s at met q n
        unfolding column_step bit
        body_read g w e = e ∙ simp (lt-ltb n (q.k + q.r) h, sym hv ∙ not-false v gv, is x _ f _ hx hf ef, eq-eqb (met / 2 ^ n % 2) 0 g)

-- ---- the ways out of `read_body`

module _ (s : List ℕ) (at : ℕ) (q : Params) (n size : ℕ) (hs : size ≡ file_length q n) where
  pub file_cut : length s - at < size → Err Cut ≡ body_step s at q n
  unfolding body_step
  file_cut g = simp (lt-ltb (length s - at) (file_length q n) (rw hs at g))

  module _ (long : size ≤ length s - at) where
    pub file_whole : Start s q at n → Whole s q at n
    file_whole H = record { admitted = H.admitted; below = H.below; here = omega (arith, H.here) }

    module _ (w : Bool) (hw : w ≡ counted s at q n) where
      pub miscounted : not w ≡ true → Err Count ≡ body_step s at q n
      unfolding body_step
      miscounted g = simp (le-ltb (length s - at) (file_length q n) (rw hs at long), sym hw ∙ not-true w g)

      pub file_read : not w ≡ false → Ok (record { column = n; end = at + size }) ≡ body_step s at q n
      unfolding body_step
      file_read g = simp (le-ltb (length s - at) (file_length q n) (rw hs at long), sym hw ∙ not-false w g) (ap (λ (y : ℕ). Ok (record { column = n; end = at + y })) hs)

-- ---- the ways out of `read_file`: left are the bytes from the place on, x is the first count, v what the test of the parameters gave

module _ (s : List ℕ) (at met : ℕ) where
  pub no_file : length s - at < 2 → Err Cut ≡ step_of s at met
  unfolding step_of
  no_file h = simp (lt-ltb (length s - at) 2 h)

  module _ (x : ℕ) (hx : x ≡ u16 s at) where
    pub no_six : 2 ≤ length s - at → (x ≡ 6 → ⊥) → Err Count ≡ step_of s at met
    unfolding step_of
    no_six l h = simp (le-ltb (length s - at) 2 l, is_not x (u16 s at) 6 6 hx refl h)

    module _ (six : x ≡ 6) where
      pub short_head : 2 ≤ length s - at → length s - at < 14 → Err Cut ≡ step_of s at met
      unfolding step_of
      short_head l h = simp (le-ltb (length s - at) 2 l, is x (u16 s at) 6 6 hx refl six, lt-ltb (length s - at) 14 h)

      module _ (m : 14 ≤ length s - at) (v : Result Params Refusal) (e : v ≡ checked_of (u16 s (at + 2)) (u16 s (at + 4)) (u16 s (at + 6)) (u16 s (at + 8))) where
        to_check : step_of s at met ≡ checked_step s at met v
        unfolding step_of
        to_check = simp (le-ltb (length s - at) 2 (omega arith), is x (u16 s at) 6 6 hx refl six, le-ltb (length s - at) 14 m) (ap (checked_step s at met) (sym e))

        pub bad_params : (n : Refusal) (w : Result File Refusal) → v ≡ Err n → w ≡ Err n → w ≡ step_of s at met
        unfolding checked_step
        bad_params n w f g = g ∙ sym (to_check ∙ ap (checked_step s at met) f)

        pub column_read : (q : Params) (n : ℕ) (w : Result File Refusal) → v ≡ Ok q → n ≡ u16 s (at + number_at) → w ≡ column_step s at met q n → w ≡ step_of s at met
        unfolding checked_step
        column_read q n w f g k = k ∙ ap (column_step s at met q) g ∙ sym (to_check ∙ ap (checked_step s at met) f)

-- ---- `with_column`: the power as the code has it

pub mark_shifted : (met n : ℕ) → n < 64 → bit_xor met (1 * 2 ^ n % 2 ^ 64) ≡ met ⊕ 2 ^ n
unfolding ◌⊕◌
mark_shifted met n h = let e : 1 * 2 ^ n % 2 ^ 64 ≡ 2 ^ n = omega (arith, mod-eq_of_lt (pow-lt h)) in ap (bit_xor met) e
