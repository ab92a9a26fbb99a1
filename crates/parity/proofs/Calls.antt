-- What the public calls answer, by the way they come out.
-- Assumes nothing.
use Prim.Native.Nat.{ℕ, ◌*◌, ◌^◌, ◌<◌, ◌≤◌}
use mathlib.Core.Bool.{true}
use mathlib.Core.List.{List}
use mathlib.Core.Logic.{◌≢◌}
use mathlib.Core.Path.{◌≡◌, sym, ap, subst, ◌∙◌, refl}
use native.Mathlib.Omega.{arith}
use lib.Dec.{eqb}
use lib.ListN.{length}
use borrow.Author.Tests.{eq-eqb, ne_eqb}
use Rattle.std.specs.Prelude.{Result, Ok, Err}
use Rattle.laws.specs.Left.{Leaves}
use Rattle.refusal.specs.declared.Refusal.{Refusal}
use Rattle.refusal.specs.declared.Refusal.TheVariants.{Width, Room as NoRoom}
use Rattle.stripe.proofs.Places.{columns_small}
use Rattle.stripe.proofs.Images.{length_parities_in}
use Rattle.stripe.specs.Layout.{column_length, image_length}
use Rattle.stripe.specs.Params.{Admitted, checked_of}
use Rattle.stripe.specs.Reading.{Image, read_of}
use Rattle.stripe.specs.Sections.{parities_in}
use Rattle.stripe.specs.declared.Params.{Params}
use Rattle.parity.proofs.Heads.{head_image, head_refilled}
use Rattle.parity.specs.Answer.{wrong_parities, refill_of, refill_read, check_of, check_read, make_sound, make_of, make_checked}
use Rattle.parity.specs.Inner.{Room, unset}
use Rattle.parity.specs.Make.{made}
use Rattle.block.specs.Parity.{refilled}

-- ---- after reading: v is what the reading gave

module _ (s : List ℕ) (v : Result Params Refusal) (a : v ≡ read_of s) where
  pub refill_refused : (e : Refusal) (x : Result (Unit {0}) Refusal) → v ≡ Err e → x ≡ Err e → Leaves (refill_of s) x s
  unfolding refill_of refill_read
  refill_refused e x f g = subst (λ (w : Result Params Refusal). Leaves (refill_read s w) x s) (sym f ∙ a) (record { answered = g; left = refl })

  pub refill_done : (q : Params) (t : List ℕ) → v ≡ Ok q → t ≡ refilled s q → Leaves (refill_of s) (Ok tt) t
  unfolding refill_of refill_read
  refill_done q t f g = subst (λ (w : Result Params Refusal). Leaves (refill_read s w) (Ok tt) t) (sym f ∙ a) (record { answered = refl; left = g })

  pub check_refused : (e : Refusal) (x : Result ℕ Refusal) → v ≡ Err e → x ≡ Err e → x ≡ check_of s
  unfolding check_of check_read
  check_refused e x f g = g ∙ ap (check_read s) (sym f ∙ a)

  pub check_done : (q : Params) (w : ℕ) → v ≡ Ok q → w ≡ wrong_parities s q → Ok w ≡ check_of s
  unfolding check_of check_read
  check_done q w f g = ap Ok g ∙ ap (check_read s) (sym f ∙ a)

-- ---- `fill`

module _ (d s t : List ℕ) (q : Params) (R : Room d s q) (e : t ≡ unset d s q) where
  pub unset_image : Image t q
  unset_image = rw e (head_image d (parities_in s q) q R.admitted R.width (length_parities_in s q R.room))

  pub set_made : (u : List ℕ) → u ≡ refilled t q → u ≡ made q d
  set_made u k = k ∙ ap (λ (x : List ℕ). refilled x q) e ∙ head_refilled d (parities_in s q) q R.admitted R.width (length_parities_in s q R.room)

-- ---- the ways out of `make_sound`: c is the length of a column, n that of an image

module _ (d s : List ℕ) (q : Params) (c : ℕ) (A : Admitted q) (e : c ≡ column_length q) where
  pub width_fits : c ≤ 30720 → q.k * c < 2 ^ 64
  width_fits h = omega (arith, columns_small q q.k c A (omega arith) h)

  pub width_refused : length d ≢ q.k * c → Leaves (make_sound d s q) (Err Width) s
  unfolding make_sound
  width_refused f =
      let z = ne_eqb (length d) (q.k * column_length q) (λ g. f (g ∙ ap (λ (x : ℕ). q.k * x) (sym e))) in
      record { answered = simp z; left = simp z }

  pub width_same : length d ≡ q.k * c → length d ≡ q.k * column_length q
  width_same f = f ∙ ap (λ (x : ℕ). q.k * x) e

  module _ (f : length d ≡ q.k * c) (n : ℕ) (g : n ≡ image_length q) where
    width_is : eqb (length d) (q.k * column_length q) ≡ true
    width_is = eq-eqb (length d) (q.k * column_length q) (width_same f)

    pub room_refused : length s ≢ n → Leaves (make_sound d s q) (Err NoRoom) s
    unfolding make_sound
    room_refused h =
        let z = ne_eqb (length s) (image_length q) (λ k. h (k ∙ sym g)) in
        record { answered = simp (width_is, z); left = simp (width_is, z) }

    pub make_done : length s ≡ n → (u : List ℕ) → u ≡ made q d → Leaves (make_sound d s q) (Ok tt) u
    unfolding make_sound
    make_done h u k = let z = eq-eqb (length s) (image_length q) (h ∙ g) in record { answered = simp (width_is, z); left = simp (width_is, z) k }

-- ---- the ways out of `make`: v is what the test of the parameters gave

module _ (p k r b : ℕ) (d s : List ℕ) (v : Result Params Refusal) (a : v ≡ checked_of p k r b) where
  pub make_refused : (e : Refusal) (x : Result (Unit {0}) Refusal) → v ≡ Err e → x ≡ Err e → Leaves (make_of p k r b d s) x s
  unfolding make_of make_checked
  make_refused e x f g = subst (λ (w : Result Params Refusal). Leaves (make_checked d s w) x s) (sym f ∙ a) (record { answered = g; left = refl })

  pub make_checked_is : (q : Params) (x : Result (Unit {0}) Refusal) (t : List ℕ) → v ≡ Ok q → Leaves (make_sound d s q) x t → Leaves (make_of p k r b d s) x t
  unfolding make_of make_checked
  make_checked_is q x t f l = subst (λ (w : Result Params Refusal). Leaves (make_checked d s w) x t) (sym f ∙ a) l
