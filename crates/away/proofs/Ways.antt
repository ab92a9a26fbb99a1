-- Each way out of a write with lost columns, and what it leaves.
-- Assumes nothing.
use Prim.Native.Nat.{ℕ, ◌-◌, ◌<◌, ◌≤◌}
use mathlib.Core.Bool.{Bool, true, false, not, ◌&&◌}
use mathlib.Core.List.{List}
use mathlib.Core.Path.{◌≡◌, sym, ap, ◌∙◌}
use native.Mathlib.Omega.{arith}
use lib.Dec.{ltb, ltb→lt}
use lib.ListN.{length}
use borrow.Author.Tests.{le-ltb, lt-ltb, ne_eqb, eq-eqb}
use Rattle.std.specs.Prelude.{Result, Ok, Err}
use Rattle.laws.proofs.Choose.{true_T, and_right}
use Rattle.laws.specs.Left.{Leaves}
use Rattle.refusal.specs.declared.Refusal.{Refusal}
use Rattle.refusal.specs.declared.Refusal.TheVariants.{Width, Column, Row, Many}
use Rattle.stripe.proofs.Frame.{read_image}
use Rattle.stripe.specs.Layout.{revision_of, rows}
use Rattle.stripe.specs.Params.{Admitted}
use Rattle.stripe.specs.Reading.{read_of}
use Rattle.stripe.specs.declared.Params.{Params}
use Rattle.pattern.specs.Pattern.{pattern_fits, few_lost}
use Rattle.revision.specs.Revision.{judged, is_current}
use Rattle.revision.specs.declared.Age.{Age}
use Rattle.revision.specs.declared.Age.TheVariants.{Current}
use Rattle.write.proofs.Ways.{leaves_is, age_handed, age_current}
use Rattle.present.specs.Steps.{Target}
use Rattle.away.specs.Away.{away_of, away_read, away_sound, away_judged}
use Rattle.write.specs.declared.Accepted.{Accepted}
use Rattle.write.specs.declared.Refused.{Refused}
use Rattle.write.specs.declared.Refused.TheVariants.{Aged, Other}

module _ (s v : List ℕ) (m i t b : ℕ) (w : Result Params Refusal) (e : w ≡ read_of s) where
  pub unread : (n : Refusal) (x : Result Accepted Refused) → w ≡ Err n → x ≡ Err (Other n) → Leaves (away_of s m i t b v) x s
  unfolding away_of away_read
  unread n x f g =
      rw g (leaves_is (away_of s m i t b v) (record { answer = Err (Other n); image = s }) (ap (away_read s m i t b v) (sym e ∙ f)))

  module _ (q : Params) (f : w ≡ Ok q) where
    pub read_p : 1 ≤ q.p
    read_p = omega (arith, (read_image s q w e f).admitted.p_low)

    pub read_admitted : Admitted q
    read_admitted = (read_image s q w e f).admitted

    sound : away_of s m i t b v ≡ away_sound s m i t b v q
    unfolding away_of away_read
    sound = ap (away_read s m i t b v) (sym e ∙ f)

    module _ (x : Bool) (c : x ≡ (pattern_fits q m && ltb i q.k)) where
      pub no_column : x ≡ false → Leaves (away_of s m i t b v) (Err (Other Column)) s
      unfolding away_sound
      no_column h =
          let z : (pattern_fits q m && ltb i q.k) ≡ false = sym c ∙ h in
          leaves_is (away_of s m i t b v) (record { answer = Err (Other Column); image = s }) (sound ∙ rw z)

      module _ (h : x ≡ true) where
        within : (pattern_fits q m && ltb i q.k) ≡ true
        within = sym c ∙ h

        pub no_row : q.p - 1 ≤ t → Leaves (away_of s m i t b v) (Err (Other Row)) s
        unfolding away_sound
        no_row g = leaves_is (away_of s m i t b v) (record { answer = Err (Other Row); image = s }) (sound ∙ rw (within, le-ltb t (rows q) g))

        module _ (g : t < q.p - 1) where
          pub no_width : (length v ≡ q.b → ⊥) → Leaves (away_of s m i t b v) (Err (Other Width)) s
          unfolding away_sound
          no_width k = leaves_is (away_of s m i t b v) (record { answer = Err (Other Width); image = s }) (sound ∙ rw (within, lt-ltb t (rows q) g, ne_eqb (length v) q.b k))

          module _ (k : length v ≡ q.b) (y : Bool) (d : y ≡ few_lost q m) where
            pub no_few : y ≡ false → Leaves (away_of s m i t b v) (Err (Other Many)) s
            unfolding away_sound
            no_few j =
                let z : few_lost q m ≡ false = sym d ∙ j in
                leaves_is (away_of s m i t b v) (record { answer = Err (Other Many); image = s }) (sound ∙ rw (within, lt-ltb t (rows q) g, eq-eqb (length v) q.b k, z))

            module _ (j : y ≡ true) where
              few : few_lost q m ≡ true
              few = sym d ∙ j

              pub sound_left : (x : Result Accepted Refused) (u : List ℕ) → Leaves (away_judged s q m i t b v (judged (revision_of s i) b)) x u → Leaves (away_of s m i t b v) x u
              unfolding away_sound
              sound_left x u L =
                  let z : away_of s m i t b v ≡ away_judged s q m i t b v (judged (revision_of s i) b) = sound ∙ rw (within, lt-ltb t (rows q) g, eq-eqb (length v) q.b k, few) in
                  rw z L

-- ---- by the age y of the base, where z is whether it is current

module _ (s v : List ℕ) (q : Params) (m i t b : ℕ) (y : Age) (r : y ≡ judged (revision_of s i) b) (z : Bool) (o : z ≡ is_current y) where
  pub handed_on : not z ≡ true → Leaves (away_judged s q m i t b v (judged (revision_of s i) b)) (Err (Aged y)) s
  unfolding away_judged
  handed_on n = rw (sym r) (age_handed s _ y z o n)

  pub current : not z ≡ false → (x : Result Accepted Refused) (u : List ℕ) → Leaves (away_judged s q m i t b v Current) x u → Leaves (away_judged s q m i t b v (judged (revision_of s i) b)) x u
  unfolding away_judged
  current n x u L = rw (sym r) (age_current s _ y z o n x u L)

-- ---- what `write_sound` is asked

pub read_target : (s v : List ℕ) (m i t : ℕ) (q : Params) (w : Result Params Refusal) → w ≡ Ok q → w ≡ read_of s → i < q.k → t < q.p - 1 → length v ≡ q.b → Target s (record { q = q; lost = m; column = i; row = t }) v
read_target s v m i t q w f e h g k = record { accepted = read_image s q w e f; column = h; row = g; width = k }

pub within_column : (q : Params) (m i : ℕ) (x : Bool) → x ≡ (pattern_fits q m && ltb i q.k) → x ≡ true → i < q.k
within_column q m i x c h =
    ltb→lt i q.k (and_right (pattern_fits q m) (ltb i q.k) (true_T (pattern_fits q m && ltb i q.k) (sym c ∙ h)))

pub few_told : (q : Params) (m : ℕ) (y : Bool) → y ≡ few_lost q m → y ≡ true → few_lost q m ≡ true
few_told q m y d j = sym d ∙ j
