-- What the tests of the calls show of their definitions.
-- Assumes nothing.
use Prim.Native.Nat.{◌%◌, ◌*◌, ◌+◌, ◌-◌, ◌/◌, ◌<◌, ◌^◌, ◌≤◌, ℕ}
use mathlib.Core.Bool.{Bool, ◌&&◌, cond, false, true}
use mathlib.Core.List.{List}
use mathlib.Core.Path.{◌∙◌, ◌≡◌, ap, refl, sym}
use native.Mathlib.Decide.{dec_lt}
use native.Mathlib.Nat.{div-eq_of_lt, mod-lt}
use native.Mathlib.Omega.{arith}
use lib.Bits.{and_mask, bit_and}
use lib.Count.{ones, ones-le}
use lib.Dec.{T, eqb, leb, ltb, ltb→lt}
use lib.ListN.{length, take}
use lib.Pow.{pow_pos, split}
use lib.Seq.{length-take-le}
use borrow.Author.Tests.{eq-eqb, eqb-true, le-leb, le-ltb, leb-true, lt-leb, lt-ltb, ltb-true, ne_eqb}
use Rattle.laws.proofs.Choose.{T_true, below_at, and_left, and_right, choose_yes, true_T}
use Rattle.std.specs.Prelude.{Result, Ok, Err}
use Rattle.laws.specs.Bit.{bit, weight}
use Rattle.laws.specs.Choose.{below}
use Rattle.ring.proofs.Elements.{ones_below}
use Rattle.stripe.proofs.Frame.{read_image}
use Rattle.stripe.specs.Layout.{rows}
use Rattle.stripe.specs.Params.{Admitted}
use Rattle.stripe.specs.Reading.{Image, read_of}
use Rattle.refusal.specs.declared.Refusal.{Refusal}
use Rattle.refusal.specs.declared.Refusal.TheVariants.{Column, Row, Many, Room}
use Rattle.stripe.specs.declared.Params.{Params}
use Rattle.pattern.specs.Pattern.{asked, asked_read, few_lost, pattern_fits, is_lost}
use Rattle.pattern.specs.Inner.{Cell}

-- ---- bits of the pattern

pub lost_tested : (m n : ℕ) → eqb (m / 2 ^ n % 2) 1 ≡ is_lost m n
unfolding bit
lost_tested m n = refl

pub fits_tested : (q : Params) (m : ℕ) → eqb (m / 2 ^ (q.k + q.r)) 0 ≡ pattern_fits q m
unfolding pattern_fits
fits_tested q m = go (dec_lt m (2 ^ (q.k + q.r)))
  where
    high : m / 2 ^ (q.k + q.r) ≡ 0 → m < 2 ^ (q.k + q.r)
    high z = omega (arith, split m (q.k + q.r), mod-lt m (pow_pos (q.k + q.r)), ap (λ (x : ℕ). x * 2 ^ (q.k + q.r)) z)

    go : Dec (m < 2 ^ (q.k + q.r)) → eqb (m / 2 ^ (q.k + q.r)) 0 ≡ ltb m (2 ^ (q.k + q.r))
    go (yes h) = eq-eqb (m / 2 ^ (q.k + q.r)) 0 (div-eq_of_lt h) ∙ sym (lt-ltb m (2 ^ (q.k + q.r)) h)
    go (no h) = ne_eqb (m / 2 ^ (q.k + q.r)) 0 (λ z. h (high z)) ∙ sym (le-ltb m (2 ^ (q.k + q.r)) (omega arith))

-- the lowest n of 64 bits
masks : T (below 65 (λ n. eqb (2 ^ 64 - 1 - cond (ltb n 64) ((2 ^ 64 - 1) * 2 ^ n % 2 ^ 64) 0) (2 ^ n - 1)))
unfolding below
masks = tt

pub counted : (m n r : ℕ) → n ≤ 64 → r ≡ cond (ltb n 64) ((2 ^ 64 - 1) * 2 ^ n % 2 ^ 64) 0
    → (ones (bit_and m (2 ^ 64 - 1 - r)) ≡ weight m n) × (ones (bit_and m (2 ^ 64 - 1 - r)) ≤ n)
counted m n r h e =
    let z = eqb-true _ _ (T_true _ (below_at (λ n. eqb (2 ^ 64 - 1 - cond (ltb n 64) ((2 ^ 64 - 1) * 2 ^ n % 2 ^ 64) 0) (2 ^ n - 1)) 65 masks n (omega arith))) in
    let o = ap (λ (x : ℕ). ones (bit_and m x)) (ap (λ (x : ℕ). 2 ^ 64 - 1 - x) e ∙ z) ∙ ap ones (and_mask m n) in
    (o ∙ ones_below m n, omega (arith, o, ones-le n (m % 2 ^ n) (mod-lt m (pow_pos n))))

-- ---- the ways out of `ask`

module _ (q : Params) (m n c : ℕ) (x : Bool) (g : x ≡ pattern_fits q m) where
  pub within_not : x ≡ false → false ≡ (pattern_fits q m && ltb n c)
  within_not h = simp (sym g ∙ h)

  pub within_is : x ≡ true → ltb n c ≡ (pattern_fits q m && ltb n c)
  within_is h = simp (sym g ∙ h)

pub ruleset within_tested = (within_not, within_is)

module _ (q : Params) (m n t room : ℕ) (x : Bool) (g : x ≡ (pattern_fits q m && ltb n (q.k + q.r))) where
  abbrev pub due : Result Params Refusal
  due = asked_read m n t room (Ok q)

  pub ask_column : x ≡ false → Err Column ≡ due
  unfolding asked_read
  ask_column h = simp (sym g ∙ h)

  module _ (h : x ≡ true) where
    within : (pattern_fits q m && ltb n (q.k + q.r)) ≡ true
    within = sym g ∙ h

    pub ask_row : q.p - 1 ≤ t → Err Row ≡ due
    unfolding asked_read
    ask_row k = simp (within, le-ltb t (rows q) k)

    module _ (k : t < q.p - 1) (y : Bool) (i : y ≡ few_lost q m) where
      pub ask_many : y ≡ false → Err Many ≡ due
      unfolding asked_read
      ask_many j = simp (within, lt-ltb t (rows q) k, sym i ∙ j)

      module _ (j : y ≡ true) where
        pub ask_room : room < q.b → Err Room ≡ due
        unfolding asked_read
        ask_room z = simp (within, lt-ltb t (rows q) k, sym i ∙ j, lt-leb q.b room z)

        pub ask_sound : q.b ≤ room → Ok q ≡ due
        unfolding asked_read
        ask_sound z = simp (within, lt-ltb t (rows q) k, sym i ∙ j, le-leb q.b room z)

pub ruleset asks = (ask_column, ask_row, ask_many, ask_room, ask_sound)

module _ (s : List ℕ) (m n t room : ℕ) (v : Result Params Refusal) (e : v ≡ read_of s) where
  pub ask_unread : (x : Refusal) (w : Result Params Refusal) → v ≡ Err x → w ≡ Err x → w ≡ asked s m n t room
  unfolding asked asked_read
  ask_unread x w f g = g ∙ ap (asked_read m n t room) (sym f ∙ e)

  pub ask_read : (q : Params) (w : Result Params Refusal) → v ≡ Ok q → w ≡ asked_read m n t room (Ok q) → w ≡ asked s m n t room
  unfolding asked
  ask_read q w f g = g ∙ ap (asked_read m n t room) (sym f ∙ e)

-- ---- an image that was read

module _ (s : List ℕ) (w : Result Params Refusal) (e : w ≡ read_of s) (q : Params) (f : w ≡ Ok q) where
  pub read_admitted : Admitted q
  read_admitted = (read_image s q w e f).admitted

-- ---- a strip that may be asked for

pub record Sound (s : List ℕ) (q : Params) (m n t room : ℕ) : Type 0 where
  pub image : Image s q
  pub fits : pattern_fits q m ≡ true
  pub column : n < q.k + q.r
  pub row : t < rows q
  pub few : few_lost q m ≡ true
  pub space : q.b ≤ room

not_unread : (q : Params) (w : Result Params Refusal) → w ≡ Ok q → (n : Refusal) → w ≡ Err n → ⊥
not_unread q w e n f = let z : ◌≡◌ {A = ℕ} 0 1 = cc in omega arith

sound_read : (s : List ℕ) (q : Params) (m n t room : ℕ) (v w : Result Params Refusal) → v ≡ read_of s → w ≡ asked_read m n t room v → w ≡ Ok q → Sound s q m n t room
unfolding asked_read
sound_read s q m n t room (Ok h) w d e f =
    let o = not_unread q w f in
    let a = choose_yes (pattern_fits h m && ltb n (h.k + h.r)) _ _ w (o Column) e in
    let b = choose_yes (ltb t (rows h)) _ _ w (o Row) a.1 in
    let c = choose_yes (few_lost h m) _ _ w (o Many) b.1 in
    let g = choose_yes (leb h.b room) _ _ w (o Room) c.1 in
    let i : q ≡ h = cc in
    let x = true_T _ a.0 in
    rw i (record {
      image = read_image s h (Ok h) d refl;
      fits = T_true _ (and_left (pattern_fits h m) _ x);
      column = ltb→lt n (h.k + h.r) (and_right (pattern_fits h m) _ x);
      row = ltb-true t (rows h) b.0;
      few = c.0;
      space = leb-true h.b room g.0;
    })
sound_read s q m n t room (Err x) w d e f = absurd (not_unread q w f x e)

module _ (s : List ℕ) (m n t room : ℕ) (w : Result Params Refusal) (e : w ≡ asked s m n t room) (q : Params) (f : w ≡ Ok q) where
  pub asked_sound : Sound s q m n t room
  unfolding asked
  asked_sound = sound_read s q m n t room (read_of s) w refl e f

  pub asked_low : n < 64
  asked_low = let x = asked_sound in omega (arith, x.image.admitted.fits, x.image.admitted.p_high)

  pub asked_cell : Cell q n t
  asked_cell = let x = asked_sound in record { admitted = x.image.admitted; column = x.column; row = x.row }

  pub asked_space : (c : List ℕ) → room ≡ length c → q.b ≡ length (take q.b c)
  asked_space c g = sym (length-take-le q.b c (omega (arith, asked_sound.space)))
