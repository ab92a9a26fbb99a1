-- The ways out of `show` and `show_refusal`: w is what `ask` gave, l whether the column is lost.
-- Assumes nothing.
use Prim.Native.Nat.{◌+◌, ◌-◌, ◌<◌, ◌≤◌, ℕ}
use mathlib.Core.Bool.{Bool, false, true}
use mathlib.Core.List.{List, []}
use mathlib.Core.Path.{◌∙◌, ◌≡◌, ap, ap₂, sym}
use native.Mathlib.Nat.{add_comm}
use native.Mathlib.Omega.{arith}
use lib.ListN.{drop, length, take}
use borrow.Author.Tests.{le-ltb, lt-ltb}
use Rattle.std.specs.Prelude.{Result, Ok, Err}
use Rattle.laws.specs.Choose.{choose}
use Rattle.laws.specs.Part.{part}
use Rattle.stripe.proofs.Places.{parity_in, parity_strip_in, parity_strip_small, strip_in, strip_small}
use Rattle.stripe.specs.Layout.{parity_strip_at, strip_at}
use Rattle.refusal.specs.Number.{number_of, answer_number}
use Rattle.refusal.specs.declared.Refusal.{Refusal}
use Rattle.stripe.specs.declared.Params.{Params}
use Rattle.pattern.proofs.Asking.{asked_sound}
use Rattle.rebuild.specs.Answer.{show_number, shown, shown_asked, shown_asked_at, shown_at}
use Rattle.pattern.specs.Inner.{Cell}
use Rattle.pattern.specs.Pattern.{asked, is_lost}
use Rattle.rebuild.specs.Inner.{StripPlace}

-- what is chosen by a test whose answer is known
chosen : {A : Type 0} (x y : A) {b t : Bool} → b ≡ t → choose b x y ≡ choose t x y
chosen x y e = ap (λ (b : Bool). choose b x y) e

-- ---- where a strip starts

module _ (q : Params) (n t x : ℕ) (c : Cell q n t) where
  pub data_place : n < q.k → x ≡ strip_at q n t → StripPlace q n t x
  data_place h e = record {
    is = e ∙ chosen _ _ (sym (lt-ltb n q.k h));
    inside = omega (arith, strip_in q n t h c.row, parity_in q);
    small = omega (arith, strip_small q n t c.admitted h c.row);
  }

  pub parity_place : q.k ≤ n → x ≡ parity_strip_at q (n - q.k) t → StripPlace q n t x
  parity_place h e =
      let l : n - q.k < q.r = omega (arith, c.column) in
      record {
        is = e ∙ chosen _ _ (sym (le-ltb n q.k h));
        inside = omega (arith, parity_strip_in q (n - q.k) t l c.row);
        small = omega (arith, parity_strip_small q (n - q.k) t c.admitted l c.row);
      }

-- ---- what is shown

module _ (s c : List ℕ) (m n t : ℕ) (w : Result Params Refusal) (e : w ≡ asked s m n t (length c)) where
  module _ (x : Refusal) (f : w ≡ Err x) where
    pub shown_refused : [] ≡ shown s m n t c
    unfolding shown shown_asked
    shown_refused = ap (shown_asked s m n t c) (sym f ∙ e)

    pub shown_refused_at : (i j : ℕ × ℕ) → j ≡ shown_at s m n t (length c) i j
    unfolding shown_at shown_asked_at
    shown_refused_at i j = ap (shown_asked_at m n t i j) (sym f ∙ e)

    pub number_refused : (v : ℕ) → v ≡ number_of x → v ≡ show_number s m n t (length c)
    unfolding show_number
    number_refused v g = g ∙ ap answer_number (sym f ∙ e)

  module _ (q : Params) (f : w ≡ Ok q) where
    pub number_none : 0 ≡ show_number s m n t (length c)
    unfolding show_number
    number_none = ap answer_number (sym f ∙ e)

    module _ (l : Bool) (g : l ≡ is_lost m n) where
      module _ (h : l ≡ true) where
        pub shown_lost : take q.b c ≡ shown s m n t c
        unfolding shown shown_asked
        shown_lost = chosen _ _ (sym h ∙ g) ∙ ap (shown_asked s m n t c) (sym f ∙ e)

        pub shown_lost_at : (i j : ℕ × ℕ) → j ≡ shown_at s m n t (length c) i j
        unfolding shown_at shown_asked_at
        shown_lost_at i j = chosen _ _ (sym h ∙ g) ∙ ap (shown_asked_at m n t i j) (sym f ∙ e)

      module _ (h : l ≡ false) (x : ℕ) (p : StripPlace q n t x) where
        pub shown_end : x + q.b ≤ length s
        shown_end = omega (arith, p.inside, (asked_sound s m n t (length c) w e q f).image.len)

        pub shown_present : take (x + q.b - x) (drop x s) ≡ shown s m n t c
        unfolding shown shown_asked part
        shown_present =
            let z : x + q.b - x ≡ q.b = omega arith in
            ap₂ (λ (y v : ℕ). take y (drop v s)) z p.is
            ∙ chosen _ _ (sym h ∙ g) ∙ ap (shown_asked s m n t c) (sym f ∙ e)

        pub shown_present_at : (i j : ℕ × ℕ) → (i.0, x + i.1) ≡ shown_at s m n t (length c) i j
        unfolding shown_at shown_asked_at
        shown_present_at i j =
            ap (λ (y : ℕ). (i.0, y)) (add_comm x i.1 ∙ ap (λ (y : ℕ). i.1 + y) p.is)
            ∙ chosen _ _ (sym h ∙ g) ∙ ap (shown_asked_at m n t i j) (sym f ∙ e)
