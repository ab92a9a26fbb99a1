-- The ways out of `airsaffron_show`: v is what `rebuild::ask` gave, l whether the column is lost. And what the answer names is what `rebuild::show` returns.
-- Assumes nothing.
use Prim.Native.Nat.{ℕ, ◌+◌}
use mathlib.Core.Bool.{Bool, true, false}
use mathlib.Core.List.{List}
use mathlib.Core.Path.{◌≡◌, sym, ap, subst, ◌∙◌, refl}
use native.Mathlib.Omega.{arith}
use lib.Dec.{eqb}
use lib.ListN.{length, take, drop}
use Rattle.std.specs.Prelude.{Result, Ok, Err}
use Rattle.laws.specs.Choose.{choose}
use Rattle.laws.specs.Part.{part}
use Rattle.refusal.specs.declared.Refusal.{Refusal}
use Rattle.stripe.specs.declared.Params.{Params}
use Rattle.pattern.specs.Pattern.{is_lost, asked}
use Rattle.rebuild.specs.Answer.{column_strip_at, shown, shown_asked, shown_at, shown_asked_at, show_number}
use Rattle.rebuild.specs.Inner.{StripPlace}
use Rattle.airsaffron.specs.declared.Answer.{Answer}
use Rattle.airsaffron.specs.Given.{refused_given, shown_given}
use Rattle.refusal.specs.Number.{answer_number}

none_more : (z : ℕ) → z ≡ 0 + z
none_more z = omega arith

-- what the three numbers come to, by what `rebuild::ask` gives
abbrev pub told : ℕ → ℕ → ℕ → Result Params Refusal → Answer
told m n t w = shown_given w (shown_asked_at m n t (1, 0) (2, 0) w)

-- what `airsaffron_show` answers
abbrev pub due : List ℕ → ℕ → ℕ → ℕ → ℕ → Answer
due s m n t room = shown_given (asked s m n t room) (shown_at s m n t room (1, 0) (2, 0))

module _ (s : List ℕ) (m n t room : ℕ) (v : Result Params Refusal) (e : v ≡ asked s m n t room) (x : Answer) where
  pub show_refused : (y : Refusal) → v ≡ Err y → x ≡ refused_given y → x ≡ due s m n t room
  unfolding shown_at
  show_refused y f h = h ∙ ap (told m n t) (sym f ∙ e)

  module _ (q : Params) (f : v ≡ Ok q) (l : Bool) (g : l ≡ is_lost m n) where
    pub show_lost : l ≡ true → x ≡ record { refusal = 0; first = 2; second = 0 } → x ≡ due s m n t room
    unfolding shown_at shown_asked_at
    show_lost k h = h ∙ (ap (λ (b : Bool). shown_given (Ok q) (choose b (2, 0) (1, 0 + column_strip_at q n t))) (sym k ∙ g) ∙ ap (told m n t) (sym f ∙ e))

    pub show_present : l ≡ false → (z : ℕ) → StripPlace q n t z → x ≡ record { refusal = 0; first = 1; second = z } → x ≡ due s m n t room
    unfolding shown_at shown_asked_at
    show_present k z p h =
        h
        ∙ (ap (λ (y : ℕ). shown_given (Ok q) (1, y)) (p.is ∙ none_more (column_strip_at q n t))
        ∙ (ap (λ (b : Bool). shown_given (Ok q) (choose b (2, 0) (1, 0 + column_strip_at q n t))) (sym k ∙ g) ∙ ap (told m n t) (sym f ∙ e)))

-- ---- what the answer names is what `rebuild::show` returns

number_told : (w : Result Params Refusal) (at : ℕ × ℕ) → (shown_given w at).refusal ≡ answer_number w
number_told (Ok q) at = refl
number_told (Err e) at = refl

-- its refusal is the number of `rebuild::show_refusal`
pub show_number_is : (s : List ℕ) (m n t room : ℕ) (at : ℕ × ℕ) → (shown_given (asked s m n t room) at).refusal ≡ show_number s m n t room
unfolding show_number
show_number_is s m n t room at = number_told (asked s m n t room) at

-- the slice that an answer names: the image or the scratch
abbrev pub named : List ℕ → List ℕ → Answer → List ℕ
named s c x = choose (eqb x.first 1) s c

module _ (s c : List ℕ) (m n t : ℕ) (q : Params) where
  part_told : (b : Bool) (z : ℕ) → choose b (take q.b c) (part s z q.b) ≡ part (choose (eqb (choose {A = ℕ × ℕ} b (2, 0) (1, 0 + z)).0 1) s c) (choose {A = ℕ × ℕ} b (2, 0) (1, 0 + z)).1 q.b
  unfolding part
  part_told true z = refl
  part_told false z = ap (λ (y : ℕ). take q.b (drop y s)) (none_more z)

  -- where nothing is refused, the B bytes from its second number of the slice that it names are those that `rebuild::show` returns
  pub show_part_is : asked s m n t (length c) ≡ Ok q → let x = due s m n t (length c) in part (named s c x) x.second q.b ≡ shown s m n t c
  unfolding shown shown_asked shown_at shown_asked_at
  show_part_is f =
      subst (λ (w : Result Params Refusal). part (named s c (told m n t w)) (told m n t w).second q.b ≡ shown_asked s m n t c w) (sym f)
      (sym (part_told (is_lost m n) (column_strip_at q n t)))
