-- The ways out of `restore` and `rebuild`.
-- Assumes nothing.
use Prim.Native.Nat.{◌+◌, ◌-◌, ◌≤◌, ℕ}
use mathlib.Core.Bool.{Bool, false, not, true}
use mathlib.Core.List.{List, ◌++◌}
use mathlib.Core.Path.{◌∙◌, ◌≡◌, ap, refl, subst, sym}
use native.Mathlib.Omega.{arith}
use lib.ListN.{drop, length, take}
use lib.Seq.{length-take-le}
use borrow.Author.Tests.{not-false, not-true}
use borrow.Rule.Slice.PartMut.{put_mid}
use Rattle.std.specs.Prelude.{Result, Ok, Err}
use Rattle.laws.specs.Left.{Leaves}
use Rattle.laws.proofs.Choose.{true_T}
use Rattle.laws.proofs.Tab.{length_tab}
use Rattle.laws.specs.Part.{put, tab}
use Rattle.stripe.proofs.Frame.{read_image}
use Rattle.stripe.specs.Reading.{Image, read_of}
use Rattle.refusal.specs.declared.Refusal.{Refusal}
use Rattle.refusal.specs.declared.Refusal.TheVariants.{Column, Many}
use Rattle.stripe.specs.declared.Params.{Params}
use Rattle.pattern.proofs.Asking.{asked_sound}
use Rattle.rebuild.specs.Answer.{rebuild_read, rebuild_of, restore_asked, restore_of}
use Rattle.pattern.specs.Pattern.{asked, few_lost, pattern_fits, is_lost}
use Rattle.rebuild.specs.Inner.{StripLost}
use Rattle.rebuild.specs.Lost.{rebuilt, whole_byte}

-- ---- restore: w is what `ask` gave, c the scratch, l whether the column is lost

front_put : (c u : List ℕ) (b : ℕ) → length u ≡ b → put_mid 0 (b - 0) c u ≡ put c 0 u
unfolding put
front_put c u b e = let z : b - 0 ≡ 0 + length u = omega arith in ap (λ (j : ℕ). u ++ drop j c) z

module _ (s c : List ℕ) (m n t : ℕ) (w : Result Params Refusal) (e : w ≡ asked s m n t (length c)) where
  pub restore_refused : (x : Refusal) (v : Result (Unit {0}) Refusal) → w ≡ Err x → v ≡ Err x → Leaves (restore_of s m n t c) v c
  unfolding restore_of restore_asked
  restore_refused x v f g =
      let z : restore_of s m n t c ≡ restore_asked s m n t c (Err x) = ap (restore_asked s m n t c) (sym e ∙ f) in
      rw z (record { answered = g; left = refl })

  module _ (q : Params) (f : w ≡ Ok q) (l : Bool) (g : l ≡ is_lost m n) where
    given : restore_of s m n t c ≡ restore_asked s m n t c (Ok q)
    unfolding restore_of
    given = ap (restore_asked s m n t c) (sym e ∙ f)

    pub restore_kept : l ≡ false → Leaves (restore_of s m n t c) (Ok tt) c
    unfolding restore_asked
    restore_kept h = let z : is_lost m n ≡ false = sym g ∙ h in rw (given, z) (record { answered = refl; left = refl })

    pub restore_room : q.b ≤ length c
    restore_room = (asked_sound s m n t (length c) w e q f).space

    pub restore_asks : l ≡ true → StripLost s q m n t (take (q.b - 0) c)
    restore_asks h =
        let S = asked_sound s m n t (length c) w e q f in
        let z : q.b - 0 ≡ q.b = omega arith in
        record {
          image = S.image;
          few = true_T (few_lost q m) S.few;
          column = S.column;
          away = sym g ∙ h;
          row = S.row;
          room = ap (λ (j : ℕ). length (take j c)) z ∙ length-take-le q.b c S.space;
        }

    pub restore_done : l ≡ true → (u : List ℕ) → u ≡ tab q.b (whole_byte s q m n t) → Leaves (restore_of s m n t c) (Ok tt) (put_mid 0 (q.b - 0) c u)
    unfolding restore_asked
    restore_done h u i =
        let z : is_lost m n ≡ true = sym g ∙ h in
        rw (given, z) (record { answered = refl; left = front_put c u q.b (ap length i ∙ length_tab q.b (whole_byte s q m n t)) ∙ ap (put c 0) i })

-- ---- rebuild: x and y are what the two tests gave, w what reading gave

module _ (s : List ℕ) (m : ℕ) (q : Params) (x : Bool) (g : x ≡ pattern_fits q m) where
  pub rebuild_column : not x ≡ true → Leaves (rebuild_read s m (Ok q)) (Err Column) s
  unfolding rebuild_read
  rebuild_column h = let z : pattern_fits q m ≡ false = sym g ∙ not-true x h in rw z (record { answered = refl; left = refl })

  module _ (h : not x ≡ false) (y : Bool) (i : y ≡ few_lost q m) where
    fits : pattern_fits q m ≡ true
    fits = sym g ∙ not-false x h

    pub rebuild_many : not y ≡ true → Leaves (rebuild_read s m (Ok q)) (Err Many) s
    unfolding rebuild_read
    rebuild_many j = let z : few_lost q m ≡ false = sym i ∙ not-true y j in rw (fits, z) (record { answered = refl; left = refl })

    pub rebuild_done : not y ≡ false → (t : List ℕ) → t ≡ rebuilt s q m → Leaves (rebuild_read s m (Ok q)) (Ok tt) t
    unfolding rebuild_read
    rebuild_done j t k = let z : few_lost q m ≡ true = sym i ∙ not-false y j in rw (fits, z) (record { answered = refl; left = k })

module _ (s : List ℕ) (m : ℕ) (w : Result Params Refusal) (e : w ≡ read_of s) where
  pub rebuild_unread : (x : Refusal) (v : Result (Unit {0}) Refusal) → w ≡ Err x → v ≡ Err x → Leaves (rebuild_of s m) v s
  unfolding rebuild_of rebuild_read
  rebuild_unread x v f g =
      let z : rebuild_of s m ≡ rebuild_read s m (Err x) = ap (rebuild_read s m) (sym e ∙ f) in
      rw z (record { answered = g; left = refl })

  module _ (q : Params) (f : w ≡ Ok q) where
    pub rebuild_image : Image s q
    rebuild_image = read_image s q w e f

    pub rebuild_given : (x : Result (Unit {0}) Refusal) (t : List ℕ) → Leaves (rebuild_read s m (Ok q)) x t → Leaves (rebuild_of s m) x t
    unfolding rebuild_of
    rebuild_given x t d = subst (λ (v : Result Params Refusal). Leaves (rebuild_read s m v) x t) (sym f ∙ e) d

-- ---- what `rebuild_lost` is asked, and hands on

pub few_told : (q : Params) (m : ℕ) (y : Bool) → y ≡ few_lost q m → not y ≡ false → few_lost q m ≡ true
few_told q m y i j = sym i ∙ not-false y j
