-- A strip that was restored and is then shown has rebuild's bytes.
-- Assumes nothing.
use Prim.Native.Nat.{ℕ, ◌+◌, ◌-◌, ◌<◌, ◌≤◌}
use mathlib.Core.Bool.{Bool, true, false, ◌&&◌}
use mathlib.Core.List.{List}
use mathlib.Core.Logic.{◌≢◌}
use mathlib.Core.Path.{◌≡◌, refl, sym, ap, ◌∙◌}
use native.Mathlib.Omega.{arith}
use lib.Dec.{ltb, leb, ltb→lt, leb→le}
use lib.ListN.{length, get_or, take}
use borrow.Author.Tests.{ltb-false}
use Rattle.std.specs.Prelude.{Result, Ok, Err}
use Rattle.laws.proofs.Choose.{choose_yes, and_left, and_right, true_T, T_true}
use Rattle.laws.proofs.Part.{is_part, part_put, length_put}
use Rattle.laws.proofs.Tab.{length_tab, get_or_tab}
use Rattle.laws.specs.Choose.{choose}
use Rattle.laws.specs.Left.{Left}
use Rattle.laws.specs.Part.{tab, part, put}
use Rattle.refusal.specs.declared.Refusal.{Refusal}
use Rattle.refusal.specs.declared.Refusal.TheVariants.{Column, Row, Many, Room}
use Rattle.stripe.proofs.Places.{strip_in, parity_in, parity_strip_in}
use Rattle.stripe.specs.Layout.{rows, strip_at, parity_strip_at}
use Rattle.stripe.specs.Reading.{Image, read_of}
use Rattle.stripe.specs.declared.Params.{Params}
use Rattle.refusal.specs.Number.{number_of, answer_number}
use Rattle.rebuild.proofs.Cells.{rebuilt_data, rebuilt_parity, rebuilt_length}
use Rattle.rebuild.proofs.Whole.{whole_data_present, whole_parity_present}
use Rattle.rebuild.specs.Answer.{column_strip_at, shown, shown_asked, show_number, restore_of, restore_asked, rebuild_of}
use Rattle.pattern.specs.Pattern.{asked, asked_read, pattern_fits, few_lost, is_lost}
use Rattle.rebuild.specs.Lost.{whole_data, whole_parity, whole_byte, rebuilt}
use Rattle.promises.proofs.Accepted.{reads_image}
use Rattle.promises.proofs.Rebuilt.{rebuild_done}

-- what a sound question has shown
record Within (s : List ℕ) (q : Params) (m n t room : ℕ) : Type 0 where
  sound : asked s m n t room ≡ Ok q
  fits : pattern_fits q m ≡ true
  few : few_lost q m ≡ true
  column_in : n < q.k + q.r
  row_in : t < rows q
  room_in : q.b ≤ room

within : (s : List ℕ) (q : Params) (m n t room : ℕ) → read_of s ≡ Ok q → show_number s m n t room ≡ 0 → Within s q m n t room
unfolding show_number asked asked_read
within s q m n t room reads e =
    let w : Result Params Refusal = asked s m n t room in
    let no : (x : Refusal) → number_of x ≢ 0 → w ≡ Err x → ⊥ = λ x h z. h (sym (ap answer_number z) ∙ e) in
    let f : w ≡ asked_read m n t room (Ok q) = ap (asked_read m n t room) reads in
    let a = choose_yes (pattern_fits q m && ltb n (q.k + q.r)) _ _ w (no Column (λ z. absurd (omega (arith, z)))) f in
    let b = choose_yes (ltb t (rows q)) _ _ w (no Row (λ z. absurd (omega (arith, z)))) a.1 in
    let c = choose_yes (few_lost q m) _ _ w (no Many (λ z. absurd (omega (arith, z)))) b.1 in
    let d = choose_yes (leb q.b room) _ _ w (no Room (λ z. absurd (omega (arith, z)))) c.1 in
    let both = true_T (pattern_fits q m && ltb n (q.k + q.r)) a.0 in
    record {
      sound = d.1;
      fits = T_true (pattern_fits q m) (and_left (pattern_fits q m) (ltb n (q.k + q.r)) both);
      few = c.0;
      column_in = ltb→lt n (q.k + q.r) (and_right (pattern_fits q m) (ltb n (q.k + q.r)) both);
      row_in = ltb→lt t (rows q) (true_T (ltb t (rows q)) b.0);
      room_in = leb→le q.b room (true_T (leb q.b room) d.0);
    }

module _ (s : List ℕ) (q : Params) (m n t : ℕ) (I : Image s q) (hn : n < q.k + q.r) (ht : t < rows q) where
  -- the strip's place, by cases
  strip_inside : (l : List ℕ) → length l ≡ length s → column_strip_at q n t + q.b ≤ length l
  strip_inside l e = go (ltb n q.k) refl
    where
      go : (x : Bool) → ltb n q.k ≡ x → choose x (strip_at q n t) (parity_strip_at q (n - q.k) t) + q.b ≤ length l
      go true f = omega (arith, strip_in q n t (ltb→lt n q.k (true_T (ltb n q.k) f)) ht, I.len, parity_in q)
      go false f = omega (arith, ltb-false n q.k f, parity_strip_in q (n - q.k) t (omega (arith, ltb-false n q.k f)) ht, I.len)

  -- the bytes of the rebuilt strip
  rebuilt_byte : (x : ℕ) → x < q.b → get_or (rebuilt s q m) (column_strip_at q n t + x) 0 ≡ whole_byte s q m n t x
  unfolding whole_byte
  rebuilt_byte x hx = go (ltb n q.k) refl
    where
      go : (y : Bool) → ltb n q.k ≡ y → get_or (rebuilt s q m) (choose y (strip_at q n t) (parity_strip_at q (n - q.k) t) + x) 0 ≡ choose y (whole_data s q m n t x) (whole_parity s q m (n - q.k) t x)
      go true f = rebuilt_data s q m I.len n t x (ltb→lt n q.k (true_T (ltb n q.k) f)) ht hx
      go false f = rebuilt_parity s q m I.len (n - q.k) t x (omega (arith, ltb-false n q.k f)) ht hx

  -- and those of a present strip
  present_byte : is_lost m n ≡ false → (x : ℕ) → get_or s (column_strip_at q n t + x) 0 ≡ whole_byte s q m n t x
  unfolding whole_byte
  present_byte p x = go (ltb n q.k) refl
    where
      go : (y : Bool) → ltb n q.k ≡ y → get_or s (choose y (strip_at q n t) (parity_strip_at q (n - q.k) t) + x) 0 ≡ choose y (whole_data s q m n t x) (whole_parity s q m (n - q.k) t x)
      go true f = sym (whole_data_present s q m n t x p)
      go false f =
          let z : q.k + (n - q.k) ≡ n = omega (arith, ltb-false n q.k f) in
          sym (whole_parity_present s q m (n - q.k) t x (ap (is_lost m) z ∙ p))

  pub rebuilt_strip : tab q.b (whole_byte s q m n t) ≡ part (rebuilt s q m) (column_strip_at q n t) q.b
  rebuilt_strip =
      is_part (rebuilt s q m) (tab q.b (whole_byte s q m n t)) (column_strip_at q n t) q.b (strip_inside (rebuilt s q m) (rebuilt_length s q m I.len))
      (length_tab q.b (whole_byte s q m n t)) (λ x h. get_or_tab q.b (whole_byte s q m n t) x h ∙ sym (rebuilt_byte x h))

  present_strip : is_lost m n ≡ false → tab q.b (whole_byte s q m n t) ≡ part s (column_strip_at q n t) q.b
  present_strip p =
      is_part s (tab q.b (whole_byte s q m n t)) (column_strip_at q n t) q.b (strip_inside s refl)
      (length_tab q.b (whole_byte s q m n t)) (λ x h. get_or_tab q.b (whole_byte s q m n t) x h ∙ sym (present_byte p x))

-- the front of a list that a strip was put into
pub front_put : (c v : List ℕ) → length v ≤ length c → take (length v) (put c 0 v) ≡ v
unfolding part
front_put c v h = let k : 0 + length v ≤ length c = omega arith in part_put c 0 v k

-- "restoring writes the strip that Rebuild would put there": and showing then returns it
pub restored_shown : (s : List ℕ) (q : Params) (m n t : ℕ) (c : List ℕ) → read_of s ≡ Ok q → show_number s m n t (length c) ≡ 0
    → shown s m n t (restore_of s m n t c).image ≡ part (rebuild_of s m).image (column_strip_at q n t) q.b
unfolding shown shown_asked restore_of restore_asked
restored_shown s q m n t c reads zero =
    ap (λ (a : Result Params Refusal). shown s m n t (restore_asked s m n t c a).image) e ∙ go (is_lost m n) refl
    ∙ ap (λ (l : Left (Result (Unit {0}) Refusal)). part l.image (column_strip_at q n t) q.b) (sym (rebuild_done s q m reads w.fits w.few))
  where
    w : Within s q m n t (length c)
    w = within s q m n t (length c) reads zero

    e : asked s m n t (length c) ≡ Ok q
    e = w.sound

    I : Image s q
    I = reads_image s q reads

    go : (x : Bool) → is_lost m n ≡ x
        → shown_asked s m n t (choose x (put c 0 (tab q.b (whole_byte s q m n t))) c) (asked s m n t (length (choose x (put c 0 (tab q.b (whole_byte s q m n t))) c)))
        ≡ part (rebuilt s q m) (column_strip_at q n t) q.b
    go true f =
        let v : List ℕ = tab q.b (whole_byte s q m n t) in
        let l : length v ≡ q.b = length_tab q.b (whole_byte s q m n t) in
        let h : length v ≤ length c = omega (arith, w.room_in) in
        let k : length (put c 0 v) ≡ length c = length_put c 0 v (omega arith) in
        rw (k, e, f) (ap (λ (x : ℕ). take x (put c 0 v)) (sym l) ∙ front_put c v h ∙ rebuilt_strip s q m n t I w.column_in w.row_in)
    go false f = rw (e, f) (sym (present_strip s q m n t I w.column_in w.row_in f) ∙ rebuilt_strip s q m n t I w.column_in w.row_in)
