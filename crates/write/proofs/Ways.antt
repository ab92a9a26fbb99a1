-- Each way out of a write, and what it leaves.
-- Assumes nothing.
use Prim.Native.Nat.{ℕ, ◌-◌, ◌<◌, ◌≤◌}
use mathlib.Core.Bool.{Bool, true, false, not}
use mathlib.Core.List.{List}
use mathlib.Core.Path.{◌≡◌, refl, sym, ap, ◌∙◌}
use native.Mathlib.Omega.{arith}
use lib.ListN.{length}
use borrow.Author.Tests.{le-ltb, lt-ltb, ne_eqb, eq-eqb, not-false, not-true}
use Rattle.std.specs.Prelude.{Result, Ok, Err}
use Rattle.laws.specs.Left.{Left, Leaves}
use Rattle.refusal.specs.declared.Refusal.{Refusal}
use Rattle.refusal.specs.declared.Refusal.TheVariants.{Width, Column, Row}
use Rattle.stripe.proofs.Frame.{read_image}
use Rattle.stripe.specs.Layout.{revision_of, rows}
use Rattle.stripe.specs.Reading.{Image, read_of}
use Rattle.stripe.specs.declared.Params.{Params}
use Rattle.revision.specs.Revision.{judged, is_current}
use Rattle.present.specs.Steps.{Target}
use Rattle.write.specs.Written.{by_age, write_of, write_read, write_sound, write_judged}
use Rattle.revision.specs.declared.Age.{Age}
use Rattle.revision.specs.declared.Age.TheVariants.{Current}
use Rattle.write.specs.declared.Accepted.{Accepted}
use Rattle.write.specs.declared.Refused.{Refused}
use Rattle.write.specs.declared.Refused.TheVariants.{Aged, Other}

-- what is left where it is known which way out was taken
pub leaves_is : (l m : Left (Result Accepted Refused)) → l ≡ m → Leaves l m.answer m.image
leaves_is l m e = rw e (record { answered = refl; left = refl })

-- ---- by the age y of the base, where z is whether it is current

module _ (s : List ℕ) (l : Left (Result Accepted Refused)) (y : Age) (z : Bool) (o : z ≡ is_current y) where
  pub age_handed : not z ≡ true → Leaves (by_age s l y) (Err (Aged y)) s
  age_handed n = let e : is_current y ≡ false = sym o ∙ not-true z n in record { answered = rw e; left = rw e }

  pub age_current : not z ≡ false → (x : Result Accepted Refused) (u : List ℕ) → Leaves l x u → Leaves (by_age s l y) x u
  age_current n x u L = let e : is_current y ≡ true = sym o ∙ not-false z n in record { answered = rw e L.answered; left = rw e L.left }

-- ---- the tests in their order

module _ (s v : List ℕ) (i t b : ℕ) (w : Result Params Refusal) (e : w ≡ read_of s) where
  pub unread : (n : Refusal) (x : Result Accepted Refused) → w ≡ Err n → x ≡ Err (Other n) → Leaves (write_of s i t b v) x s
  unfolding write_of write_read
  unread n x f g =
      rw g (leaves_is (write_of s i t b v) (record { answer = Err (Other n); image = s }) (ap (write_read s i t b v) (sym e ∙ f)))

  module _ (q : Params) (f : w ≡ Ok q) where
    pub read_p : 1 ≤ q.p
    read_p = omega (arith, (read_image s q w e f).admitted.p_low)

    pub read_accepted : Image s q
    read_accepted = read_image s q w e f

    sound : write_of s i t b v ≡ write_sound s i t b v q
    unfolding write_of write_read
    sound = ap (write_read s i t b v) (sym e ∙ f)

    pub no_column : q.k ≤ i → Leaves (write_of s i t b v) (Err (Other Column)) s
    unfolding write_sound
    no_column h = leaves_is (write_of s i t b v) (record { answer = Err (Other Column); image = s }) (sound ∙ simp (le-ltb i q.k h))

    module _ (h : i < q.k) where
      pub no_row : q.p - 1 ≤ t → Leaves (write_of s i t b v) (Err (Other Row)) s
      unfolding write_sound
      no_row g = leaves_is (write_of s i t b v) (record { answer = Err (Other Row); image = s }) (sound ∙ simp (lt-ltb i q.k h, le-ltb t (rows q) g))

      module _ (g : t < q.p - 1) where
        pub no_width : (length v ≡ q.b → ⊥) → Leaves (write_of s i t b v) (Err (Other Width)) s
        unfolding write_sound
        no_width k = leaves_is (write_of s i t b v) (record { answer = Err (Other Width); image = s }) (sound ∙ simp (lt-ltb i q.k h, lt-ltb t (rows q) g, ne_eqb (length v) q.b k))

        module _ (k : length v ≡ q.b) where
          pub read_target : (m : ℕ) → Target s (record { q = q; lost = m; column = i; row = t }) v
          read_target m = record { accepted = read_image s q w e f; column = h; row = g; width = k }

          module _ (y : Age) (l : y ≡ judged (revision_of s i) b) where
            way : write_of s i t b v ≡ write_judged s q i t b v y
            unfolding write_sound
            way = sound ∙ simp (lt-ltb i q.k h, lt-ltb t (rows q) g, eq-eqb (length v) q.b k) (ap (write_judged s q i t b v) (sym l))

            module _ (z : Bool) (o : z ≡ is_current y) where
              pub handed_on : not z ≡ true → Leaves (write_of s i t b v) (Err (Aged y)) s
              unfolding write_judged
              handed_on n = rw way (age_handed s _ y z o n)

              pub current : not z ≡ false → (x : Result Accepted Refused) (u : List ℕ) → Leaves (write_judged s q i t b v Current) x u → Leaves (write_of s i t b v) x u
              unfolding write_judged
              current n x u L = rw way (age_current s _ y z o n x u L)
