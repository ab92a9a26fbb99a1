-- What the functions on one row owe, over plain lists.
-- Assumes nothing.
use Prim.Native.Nat.compare
use Prim.Native.Nat.{ℕ, zero, suc, compare, ◌+◌, ◌-◌, ◌%◌, ◌≤◌, ◌<◌}
use mathlib.Core.Bool.{Bool, not}
use mathlib.Core.Logic.{◌≢◌}
use lib.Dec.{compare_is_eq}
use mathlib.Core.List.{List}
use mathlib.Core.Path.{◌≡◌, sym, ap, ap₂, ◌∙◌, refl}
use native.Mathlib.Nat.{mod-eq_of_lt, add-mod_right}
use native.Mathlib.Omega.{arith}
use lib.Bits.{bit_xor}
use lib.ListN.{get_or, length, set}
use lib.Seq.{get_or-set_same}
use Rattle.laws.proofs.Patch.{patch_none, patch_front, patch_end}
use Rattle.laws.specs.Patch.{Patched}
use Rattle.laws.specs.Xor.{◌⊕◌}
use Rattle.walk.specs.Lanes.{kept, Stepped}

-- ---- `next`

pub next_around : (f d p : ℕ) → d < p → f < d → f + (p - d) ≡ (f + (p - d)) % p
next_around f d p k l = let h : f + (p - d) < p = omega arith in sym (mod-eq_of_lt h)

pub next_below : (f d p : ℕ) → f < p → d < p → d ≤ f → f - d ≡ (f + (p - d)) % p
next_below f d p h k l =
    let e : f + (p - d) ≡ f - d + p = omega arith in
    let g : f - d < p = omega arith in
    sym (ap (λ (x : ℕ). x % p) e ∙ add-mod_right (f - d) p ∙ mod-eq_of_lt g)

-- ---- `step`

-- ADD as it is compiled, a number, and what stays of a byte
pub kept_on : (n y z : ℕ) → n ≢ 0 → z ≡ y → z ≡ kept (not (compare_is_eq (compare n 0))) y
kept_on zero y z h e = absurd (h refl)
kept_on (suc n) y z h e = e ∙ sym (ap (λ o. kept (not (compare_is_eq o)) y) (compare.suc-zero n))

pub kept_off : (n y z : ℕ) → n ≡ 0 → z ≡ 0 → z ≡ kept (not (compare_is_eq (compare n 0))) y
kept_off n y z h e = rw h e

-- so far as byte x
pub record Stepping (add : Bool) (src run run' out out' : List ℕ) (x : ℕ) : Type 0 where
  pub running : Patched run run' 0 x (λ o. get_or run o 0 ⊕ get_or src o 0)
  pub given : Patched out out' 0 x (λ o. kept add (get_or out o 0) ⊕ (get_or run o 0 ⊕ get_or src o 0))

pub step_none : (add : Bool) (src run out : List ℕ) → Stepping add src run run out out 0
step_none add src run out = record { running = patch_none run 0 _; given = patch_none out 0 _ }

pub step_more : (add : Bool) (src run run' out out' : List ℕ) (x y : ℕ) → x < length out → length out ≤ 128 → length run ≡ 128 → Stepping add src run run' out out' x
    → y ≡ kept add (get_or out' x 0)
    → Stepping add src run (set run' x (bit_xor (get_or run' x 0) (get_or src x 0))) out
    (set out' x (bit_xor y (get_or (set run' x (bit_xor (get_or run' x 0) (get_or src x 0))) x 0))) (x + 1)
unfolding ◌⊕◌
step_more add src run run' out out' x y h k l d e =
    let v : ℕ = bit_xor (get_or run' x 0) (get_or src x 0) in
    let r : v ≡ get_or run x 0 ⊕ get_or src x 0 = ap (λ (z : ℕ). bit_xor z (get_or src x 0)) (d.running.above x (omega arith)) in
    let g : get_or (set run' x v) x 0 ≡ v = get_or-set_same run' x v 0 (omega (arith, d.running.len)) in
    record {
      running = patch_front run run' x (λ o. get_or run o 0 ⊕ get_or src o 0) _ d.running (omega arith) r;
      given = patch_front out out' x (λ o. kept add (get_or out o 0) ⊕ (get_or run o 0 ⊕ get_or src o 0)) _ d.given h
          (ap₂ bit_xor (e ∙ ap (kept add) (d.given.above x (omega arith))) (g ∙ r));
    }

pub step_end : (add : Bool) (src run run' out out' : List ℕ) (x : ℕ) → Stepping add src run run' out out' x → x ≤ length out → length out ≤ x → Stepped add src run run' out out'
step_end add src run run' out out' x d h g = record { running = patch_end run run' 0 x (length out) _ d.running h g; given = patch_end out out' 0 x (length out) _ d.given h g }
