-- Demand 2.
-- Assumes nothing.
use Prim.Native.Nat.{ℕ, zero, suc, ◌+◌, ◌*◌, ◌^◌, ◌<◌, ◌≤◌}
use mathlib.Core.Bool.{Bool, true, false, ◌&&◌}
use mathlib.Core.List.{List}
use mathlib.Core.Path.{◌≡◌, sym, ◌∙◌, refl, ap, subst, subst₂}
use native.Mathlib.Omega.{arith}
use lib.Dec.{leb, ltb}
use lib.ListN.{length, take}
use borrow.Author.Tests.{lt-ltb, le-leb, lt-leb, eq-eqb}
use Rattle.std.specs.Prelude.{Result, Ok, Err}
use Rattle.laws.proofs.Bit.{bit_of_xor, bit_zero}
use Rattle.laws.proofs.Choose.{T_true}
use Rattle.laws.proofs.Sum.{sum_all}
use Rattle.laws.proofs.Tab.{length_tab, get_or_tab, is_tab}
use Rattle.laws.specs.Bit.{bit, weight}
use Rattle.laws.specs.Choose.{choose}
use Rattle.laws.specs.Left.{Left}
use Rattle.laws.specs.Part.{part, put, tab}
use Rattle.laws.specs.Sum.{sum, pick}
use Rattle.laws.specs.Xor.{◌⊕◌}
use Rattle.refusal.specs.declared.Refusal.TheVariants.{Column, Many}
use Rattle.stripe.proofs.Frame.{image_read, admitted_checked}
use Rattle.stripe.specs.Layout.{rows, column_length, image_length, data_byte}
use Rattle.stripe.specs.Params.{Admitted}
use Rattle.stripe.specs.Reading.{Image, read_of}
use Rattle.stripe.specs.declared.Params.{Params}
use Rattle.block.proofs.Touching.{due_touches}
use Rattle.block.specs.Parity.{due, Right, refilled}
use Rattle.block.specs.Touches.{touches}
use Rattle.parity.proofs.Rightness.{made_image, made_right, made_data, made_revisions, refilled_image, refilled_rest, refilled_right, right_bytes, bytes_right, check_at, check_other, clear_right}
use Rattle.parity.specs.Answer.{make_of, make_checked, make_sound, refill_of, refill_read, check_of, check_read, wrong_parities}
use Rattle.parity.specs.Make.{made}
use Rattle.pattern.proofs.Single.{none_fits, none_few}
use Rattle.pattern.specs.Pattern.{few_lost, pattern_fits, is_lost, asked, asked_read}
use Rattle.rebuild.proofs.Cells.{rebuilt_data}
use Rattle.rebuild.proofs.Whole.{whole_data_present}
use Rattle.rebuild.proofs.Independent.{rebuilt_agrees, agrees_image, whole_byte_agrees}
use Rattle.rebuild.specs.Agrees.{AgreesOutside}
use Rattle.rebuild.specs.Answer.{rebuild_of, rebuild_read, restore_of, restore_asked, column_strip_at}
use Rattle.rebuild.specs.Lost.{rebuilt, whole_data, whole_byte}
use Rattle.store.proofs.Lists.{and_right, true_ltb}
use Rattle.promises.proofs.Accepted.{reads_image, image_reads}
use Rattle.promises.proofs.Demand1.{by_test}
use Rattle.promises.proofs.Rebuilt.{rebuilt_right, rebuilt_none, rebuild_done}
use Rattle.promises.proofs.Shown.{front_put, rebuilt_strip, restored_shown}
use Rattle.promises.proofs.Solved.{whole_only, recovered_solves}
use Rattle.promises.specs.Demand2.{Pattern, Larger, ComesTo, Made, Refilled, Checked, Alike, SameConsulted, Demand2}
use Rattle.refusal.specs.declared.Refusal.{Refusal}
use Rattle.refusal.specs.Number.{answer_number, answer_value}

-- what a call comes to, by what it leaves
pub comes : (x : Result (Unit {0}) Refusal) {l : Left (Result (Unit {0}) Refusal)} {z : List ℕ} → l ≡ record { answer = x; image = z } → ComesTo l (answer_number x) z
comes x e = record { answered = ap (λ (l : Left (Result (Unit {0}) Refusal)). answer_number l.answer) e; left = ap (λ (l : Left (Result (Unit {0}) Refusal)). l.image) e }

-- ---- as rebuild answers it

module _ (s : List ℕ) (q : Params) (m : ℕ) (reads : read_of s ≡ Ok q) where
  -- "rebuilt to the byte"
  rebuild_restores : (u : List ℕ) → Right s q → Pattern q m → AgreesOutside s u q m → ComesTo (rebuild_of u m) 0 s
  rebuild_restores u r P g =
      let i : Image s q = reads_image s q reads in
      comes (Ok tt)
      (rebuild_done u q m (image_reads u q (agrees_image s u q m g i)) (T_true (pattern_fits q m) P.fits) (T_true (few_lost q m) P.few)
      ∙ ap (λ (l : List ℕ). record { answer = Ok tt; image = l }) (rebuilt_right s u q m i r P.few g))

  -- "Larger sets are refused."
  rebuild_refuses : Larger q m → ComesTo (rebuild_of s m) 12 s
  unfolding rebuild_of rebuild_read few_lost pattern_fits
  rebuild_refuses L =
      comes (Err Many) (ap (rebuild_read s m) reads ∙ rw (lt-ltb m (2 ^ (q.k + q.r)) L.fits, lt-leb (weight m (q.k + q.r)) q.r L.many))

  -- "What lost columns held at entry affects nothing."
  rebuild_blind : (u : List ℕ) → AgreesOutside s u q m → Alike (rebuild_of s m) (rebuild_of u m)
  unfolding rebuild_of rebuild_read
  rebuild_blind u g =
      let i : Image s q = reads_image s q reads in
      subst₂ (λ (v w : Result Params Refusal). Alike (rebuild_read s m v) (rebuild_read u m w)) (sym reads) (image_read u q (agrees_image s u q m g i))
      (go (pattern_fits q m) (few_lost q m) (rebuilt_agrees s u q m g i))
    where
      go : (a b : Bool) → rebuilt s q m ≡ rebuilt u q m
          → Alike (choose a (choose b (record { answer = Ok tt; image = rebuilt s q m }) (record { answer = Err Many; image = s })) (record { answer = Err Column; image = s }))
          (choose a (choose b (record { answer = Ok tt; image = rebuilt u q m }) (record { answer = Err Many; image = u })) (record { answer = Err Column; image = u }))
      go true true e = record { answered = refl; left = λ z. e }
      go true false e = record { answered = refl; left = λ z. absurd (omega (arith, z)) }
      go false b e = record { answered = refl; left = λ z. absurd (omega (arith, z)) }

-- "Other parity isn't consulted.": the data that solve the one image's equations solve the other's
module _ (s u : List ℕ) (q : Params) (m : ℕ) (S : read_of s ≡ Ok q) (U : read_of u ≡ Ok q) (P : Pattern q m) (g : SameConsulted s u q m) where
  rebuilt_byte : (l : List ℕ) → read_of l ≡ Ok q → (i t x : ℕ) → i < q.k → t < rows q → x < q.b → data_byte (rebuild_of l m).image q i t x ≡ whole_data l q m i t x
  rebuilt_byte l L i t x hi ht hx =
      ap (λ (z : Left (Result (Unit {0}) Refusal)). data_byte z.image q i t x) (rebuild_done l q m L (T_true (pattern_fits q m) P.fits) (T_true (few_lost q m) P.few))
      ∙ rebuilt_data l q m (reads_image l q L).len i t x hi ht hx

  others_unconsulted : (i t x : ℕ) → i < q.k → t < rows q → x < q.b → data_byte (rebuild_of s m).image q i t x ≡ data_byte (rebuild_of u m).image q i t x
  others_unconsulted i t x hi ht hx =
      rebuilt_byte s S i t x hi ht hx
      ∙ whole_only s q m (reads_image s q S).admitted P.few (whole_data u q m) x
      (λ i t hi ht e. whole_data_present u q m i t x e ∙ g.data_there i t x hi ht hx e)
      (λ v t hv ht. sym (recovered_solves u q m (reads_image u q U).admitted P.few v t x hv ht) ∙ g.parity_there v t x hv ht hx)
      i t hi ht
      ∙ sym (rebuilt_byte u U i t x hi ht hx)

-- "The empty pattern is accepted and changes nothing."
rebuild_empty : (s : List ℕ) (q : Params) → read_of s ≡ Ok q → ComesTo (rebuild_of s 0) 0 s
rebuild_empty s q reads =
    comes (Ok tt)
    (rebuild_done s q 0 reads (none_fits q) (none_few q) ∙ ap (λ (l : List ℕ). record { answer = Ok tt; image = l }) (rebuilt_none s q (reads_image s q reads)))

-- ---- as restore answers it

module _ (s : List ℕ) (q : Params) (m n t : ℕ) (c : List ℕ) (reads : read_of s ≡ Ok q) where
  restore_refuses : Larger q m → n < q.k + q.r → t < rows q → ComesTo (restore_of s m n t c) 12 c
  unfolding restore_of restore_asked asked asked_read few_lost pattern_fits
  restore_refuses L hn ht =
      comes (Err Many)
      (ap (λ (w : Result Params Refusal). restore_asked s m n t c (asked_read m n t (length c) w)) reads
      ∙ rw (lt-ltb m (2 ^ (q.k + q.r)) L.fits, lt-ltb n (q.k + q.r) hn, lt-ltb t (rows q) ht, lt-leb (weight m (q.k + q.r)) q.r L.many))

  -- a sound question about a strip of a lost column
  restore_lost : Pattern q m → n < q.k + q.r → t < rows q → q.b ≤ length c → is_lost m n ≡ true
      → restore_of s m n t c ≡ record { answer = Ok tt; image = put c 0 (tab q.b (whole_byte s q m n t)) }
  unfolding restore_of restore_asked asked asked_read
  restore_lost P hn ht hc e =
      ap (λ (w : Result Params Refusal). restore_asked s m n t c (asked_read m n t (length c) w)) reads
      ∙ rw (T_true (pattern_fits q m) P.fits, lt-ltb n (q.k + q.r) hn, lt-ltb t (rows q) ht, T_true (few_lost q m) P.few, le-leb q.b (length c) hc, e)

  restore_strip : Pattern q m → n < q.k + q.r → t < rows q → q.b ≤ length c → is_lost m n ≡ true
      → (answer_number (restore_of s m n t c).answer ≡ 0) × (take q.b (restore_of s m n t c).image ≡ part (rebuilt s q m) (column_strip_at q n t) q.b)
  restore_strip P hn ht hc e =
      let v : List ℕ = tab q.b (whole_byte s q m n t) in
      let l : length v ≡ q.b = length_tab q.b (whole_byte s q m n t) in
      let is = restore_lost P hn ht hc e in (
        ap (λ (x : Left (Result (Unit {0}) Refusal)). answer_number x.answer) is,
        ap (λ (x : Left (Result (Unit {0}) Refusal)). take q.b x.image) is ∙ ap (λ (x : ℕ). take x (put c 0 v)) (sym l) ∙ front_put c v (omega arith)
            ∙ rebuilt_strip s q m n t (reads_image s q reads) hn ht,
      )

  -- "What lost columns held at entry affects nothing."
  restore_same : (u : List ℕ) → AgreesOutside s u q m → restore_of s m n t c ≡ restore_of u m n t c
  unfolding restore_of restore_asked asked asked_read
  restore_same u g =
      let i : Image s q = reads_image s q reads in
      subst₂ (λ (v w : Result Params Refusal). restore_asked s m n t c (asked_read m n t (length c) v) ≡ restore_asked u m n t c (asked_read m n t (length c) w))
      (sym reads) (image_read u q (agrees_image s u q m g i))
      (by_test P (pattern_fits q m && ltb n (q.k + q.r)) _ _
      (λ a. by_test P (ltb t (rows q)) _ _
      (λ b. by_test P (few_lost q m) _ _
      (λ _. by_test P (leb q.b (length c)) _ _
      (λ _. ap (λ (v : List ℕ). record { answer = Ok tt; image = choose (is_lost m n) (put c 0 v) c }) (strips (in_columns a) (true_ltb t (rows q) b)))
      refl) refl) refl) refl)
    where
      P : Result Params Refusal → Type 0
      P w = restore_asked s m n t c w ≡ restore_asked u m n t c w

      in_columns : pattern_fits q m && ltb n (q.k + q.r) ≡ true → n < q.k + q.r
      in_columns e = true_ltb n (q.k + q.r) (and_right (pattern_fits q m) (ltb n (q.k + q.r)) e)

      strips : n < q.k + q.r → t < rows q → tab q.b (whole_byte s q m n t) ≡ tab q.b (whole_byte u q m n t)
      strips hn ht =
          let l : length (tab q.b (whole_byte s q m n t)) ≡ q.b = length_tab q.b (whole_byte s q m n t) in
          is_tab (tab q.b (whole_byte s q m n t)) q.b (whole_byte u q m n t) l
          (λ o h. get_or_tab q.b (whole_byte s q m n t) o (omega arith) ∙ whole_byte_agrees s u q m g o (omega arith) n t hn ht)

  restore_blind : (u : List ℕ) → AgreesOutside s u q m → Alike (restore_of s m n t c) (restore_of u m n t c)
  restore_blind u g = record {
    answered = ap (λ (x : Left (Result (Unit {0}) Refusal)). answer_number x.answer) (restore_same u g);
    left = λ _. ap (λ (x : Left (Result (Unit {0}) Refusal)). x.image) (restore_same u g);
  }

restore_restores : (s u : List ℕ) (q : Params) (m n t : ℕ) (c : List ℕ) → read_of s ≡ Ok q → Right s q → Pattern q m → AgreesOutside s u q m
    → n < q.k + q.r → t < rows q → q.b ≤ length c → is_lost m n ≡ true
    → (answer_number (restore_of u m n t c).answer ≡ 0) × (take q.b (restore_of u m n t c).image ≡ part s (column_strip_at q n t) q.b)
restore_restores s u q m n t c reads r P g hn ht hc e =
    let i : Image s q = reads_image s q reads in
    let U : read_of u ≡ Ok q = image_reads u q (agrees_image s u q m g i) in
    let both = restore_strip u q m n t c U P hn ht hc e in
    (both.0, both.1 ∙ ap (λ (z : List ℕ). part z (column_strip_at q n t) q.b) (rebuilt_right s u q m i r P.few g))

-- ---- "Parity is exactly the paper's"

make_right : (q : Params) (d s : List ℕ) → Admitted q → length d ≡ q.k * column_length q → length s ≡ image_length q → Made (make_of q.p q.k q.r q.b d s) q d
unfolding make_of make_checked make_sound
make_right q d s A hd hs = subst (λ (l : Left (Result (Unit {0}) Refusal)). Made l q d) (sym is) (record {
  answered = refl;
  reads = image_reads (made q d) q (made_image q d A hd);
  right = made_right q d A hd;
  data_in = made_data q d A hd;
  revisions = made_revisions q d A hd;
})
  where
    is : make_of q.p q.k q.r q.b d s ≡ record { answer = Ok tt; image = made q d }
    is =
        ap (make_checked d s) (sym (admitted_checked q A))
        ∙ rw (eq-eqb (length d) (q.k * column_length q) hd, eq-eqb (length s) (image_length q) hs)

refill_right : (s : List ℕ) (q : Params) → read_of s ≡ Ok q → Refilled (refill_of s) s q
unfolding refill_of refill_read
refill_right s q reads =
    let i : Image s q = reads_image s q reads in
    subst (λ (w : Result Params Refusal). Refilled (refill_read s w) s q) (sym reads) (record {
      answered = refl;
      reads = image_reads (refilled s q) q (refilled_image s q i);
      right = refilled_right s q i;
      rest = refilled_rest s q i;
    })

check_right : (s : List ℕ) (q : Params) → read_of s ≡ Ok q → Checked s q
unfolding check_of check_read
check_right s q reads = record {
  answered = ap (λ (w : Result Params Refusal). answer_number (check_read s w)) reads;
  right = λ j h. (
    λ e. right_bytes s q j (clear_right s q j h (sym (bit_is j) ∙ e)),
    λ e. bit_is j ∙ check_at s q j h ∙ ap (λ (b : Bool). choose b 0 1) (bytes_right s q j (reads_image s q reads).admitted e),
  );
  other = λ j h. bit_is j ∙ check_other s q j h;
}
  where
    bit_is : (j : ℕ) → bit (answer_value (check_of s)) j ≡ bit (wrong_parities s q) j
    bit_is j = ap (λ (w : Result Params Refusal). bit (answer_value (check_read s w)) j) reads

-- "each bit place of each byte is a code of its own"
bit_pick : (b v z : ℕ) → bit (pick b v) z ≡ pick b (bit v z)
unfolding pick
bit_pick zero v z = bit_zero z
bit_pick (suc b) v z = refl

bit_sum : (n : ℕ) (f : ℕ → ℕ) (z : ℕ) → bit (sum n f) z ≡ sum n (λ i. bit (f i) z)
unfolding sum
bit_sum zero f z = bit_zero z
bit_sum (suc n) f z = bit_of_xor (sum n f) (f n) z ∙ ap (λ (x : ℕ). x ⊕ bit (f n) z) (bit_sum n f z)

bit_due : (q : Params) → Admitted q → (d : ℕ → ℕ → ℕ → ℕ) (j t x z : ℕ) → t < rows q → bit (due q d j t x) z ≡ due q (λ i u y. bit (d i u y) z) j t x
bit_due q A d j t x z h =
    ap (λ (v : ℕ). bit v z) (due_touches q A d j t x h)
    ∙ bit_sum q.k (λ i. sum (rows q) (λ u. pick (touches q i u j t) (d i u x))) z
    ∙ sum_all q.k (λ i. bit_sum (rows q) (λ u. pick (touches q i u j t) (d i u x)) z ∙ sum_all (rows q) (λ u. bit_pick (touches q i u j t) (d i u x) z))
    ∙ sym (due_touches q A (λ i u y. bit (d i u y) z) j t x h)

-- ---- the theorem

pub demand_2 : Demand2
demand_2 = record {
  made = make_right;
  refilled = refill_right;
  checked = check_right;
  bit_places = bit_due;
  rebuilt = λ s u q m reads. rebuild_restores s q m reads u;
  restored = restore_restores;
  rebuild_blind = λ s u q m reads. rebuild_blind s q m reads u;
  restore_blind = λ s u q m n t c reads. restore_blind s q m n t c reads u;
  others_unconsulted = others_unconsulted;
  shown_restored = restored_shown;
  larger_refused = rebuild_refuses;
  larger_unrestored = restore_refuses;
  empty = rebuild_empty;
}
