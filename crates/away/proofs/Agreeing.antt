-- A write on an image that agrees with s outside the lost columns, and the write with these columns lost on s, leave images that agree outside them.
-- Assumes nothing.
use Prim.Native.Nat.{ℕ, ◌+◌, ◌<◌}
use mathlib.Core.Bool.{true, false}
use mathlib.Core.List.{List}
use mathlib.Core.Logic.{inl, inr}
use mathlib.Core.Path.{◌≡◌, sym, ap, ap₂, subst, ◌∙◌}
use native.Mathlib.Decide.{ℕ_discrete}
use lib.ListN.{length, get_or}
use Rattle.laws.proofs.Bit.{bit_zero}
use Rattle.laws.proofs.Place.{Place, place, before, inside, after}
use Rattle.laws.proofs.Xor.{⊕_zero}
use Rattle.laws.specs.Bit.{bit}
use Rattle.laws.specs.Sum.{pick}
use Rattle.laws.specs.Xor.{◌⊕◌}
use Rattle.stripe.specs.Layout.{data_from, revision_at, rows, data_byte, parity_byte}
use Rattle.stripe.specs.Reading.{Image}
use Rattle.stripe.specs.declared.Params.{Params}
use Rattle.block.specs.Touches.{touch_word}
use Rattle.pattern.specs.Pattern.{is_lost}
use Rattle.rebuild.proofs.Independent.{agrees_image}
use Rattle.rebuild.specs.Agrees.{AgreesOutside}
use Rattle.rebuild.specs.Lost.{whole_data}
use Rattle.write.proofs.After.{present_rest, present_revision, present_front, present_strip_here, present_strip_lost, present_strip_elsewhere, present_parity}
use Rattle.pattern.proofs.Single.{none_lost}
use Rattle.present.proofs.Empty.{word_none}
use Rattle.write.proofs.Empty.{written_none}
use Rattle.present.specs.Present.{present_word, present_written}
use Rattle.write.specs.Written.{written, difference}
use Rattle.away.specs.Away.{away_difference, away_written}
use Rattle.away.specs.Stays.{Stays}

-- a present parity column is touched as ever, a lost one nowhere
word_there : (q : Params) (m i t j : ℕ) → is_lost m (q.k + j) ≡ false → present_word q m i t j ≡ touch_word q i t j
unfolding present_word
word_there q m i t j e = rw e

word_lost : (q : Params) (m i t j : ℕ) → is_lost m (q.k + j) ≡ true → present_word q m i t j ≡ 0
unfolding present_word
word_lost q m i t j e = rw e

nothing : (a u d : ℕ) → a ⊕ pick (bit 0 u) d ≡ a
unfolding pick
nothing a u d = rw bit_zero (⊕_zero a)

-- "Bytes of lost columns stay."
pub away_stays : (s : List ℕ) (q : Params) (m i t b : ℕ) (v : List ℕ) → Image s q → i < q.k → t < rows q → length v ≡ q.b → Stays s (away_written s q m i t b v) q m
unfolding away_written
away_stays s q m i t b v I hi ht hv = record {
  data_stays = λ i' t' x h g l e. strip i' t' x h g l e (ℕ_discrete i i');
  parity_stays = λ j u x h g l e.
      present_parity s q m i t b v d I hi ht hv j u x h g l
      ∙ ap (λ (w : ℕ). parity_byte s q j u x ⊕ pick (bit w u) (d x)) (word_lost q m i t j e) ∙ nothing (parity_byte s q j u x) u (d x);
}
  where
    d : ℕ → ℕ
    d = away_difference s q m i t v

    strip : (i' t' x : ℕ) → i' < q.k → t' < rows q → x < q.b → is_lost m i' ≡ true → Dec (i ≡ i')
        → data_byte (present_written s q m i t b v d) q i' t' x ≡ data_byte s q i' t' x
    strip i' t' x h g l e (no n) = present_strip_elsewhere s q m i t b v d I hi ht hv i' t' x h g l (λ z. absurd (n z))
    strip i' t' x h g l e (yes z) = rw (sym z) (present_strip_lost s q m i t b v d I hi ht hv (ap (is_lost m) z ∙ e) t' x g l)

module _ (z s : List ℕ) (q : Params) (m i t b : ℕ) (v : List ℕ) (Z : Image z q) (g : AgreesOutside z s q m)
    (hi : i < q.k) (ht : t < rows q) (hv : length v ≡ q.b) (old : (x : ℕ) → x < q.b → whole_data s q m i t x ≡ data_byte z q i t x) where
  S : Image s q
  S = agrees_image z s q m g Z

  -- the two differences
  f : ℕ → ℕ
  f = difference z q i t v

  d : ℕ → ℕ
  d = away_difference s q m i t v

  zs : List ℕ
  zs = present_written z q 0 i t b v f

  us : List ℕ
  us = present_written s q m i t b v d

  front : (o : ℕ) → o < data_from q → Place (revision_at i) 4 o → get_or us o 0 ≡ get_or zs o 0
  unfolding us zs
  front o h (before l) = present_front s q m i t b v d S hi ht hv o h (inl l) ∙ g.front o h ∙ sym (present_front z q 0 i t b v f Z hi ht hv o h (inl l))
  front o h (inside n l e) = rw e (present_revision s q m i t b v d S hi ht hv n l ∙ sym (present_revision z q 0 i t b v f Z hi ht hv n l))
  front o h (after l) = present_front s q m i t b v d S hi ht hv o h (inr l) ∙ g.front o h ∙ sym (present_front z q 0 i t b v f Z hi ht hv o h (inr l))

  strip : (i' t' x : ℕ) → i' < q.k → t' < rows q → x < q.b → is_lost m i' ≡ false → Dec (i ≡ i') → Dec (t ≡ t') → data_byte us q i' t' x ≡ data_byte zs q i' t' x
  unfolding us zs
  strip i' t' x h k l e (yes a) (yes c) =
      ap₂ (λ (n o : ℕ). data_byte us q n o x) (sym a) (sym c)
      ∙ present_strip_here s q m i t b v d S hi ht hv (ap (is_lost m) a ∙ e) x l
      ∙ sym (present_strip_here z q 0 i t b v f Z hi ht hv (none_lost i) x l)
      ∙ ap₂ (λ (n o : ℕ). data_byte zs q n o x) a c
  strip i' t' x h k l e (yes a) (no c) =
      present_strip_elsewhere s q m i t b v d S hi ht hv i' t' x h k l (λ _. c) ∙ g.data_there i' t' x h k l e
      ∙ sym (present_strip_elsewhere z q 0 i t b v f Z hi ht hv i' t' x h k l (λ _. c))
  strip i' t' x h k l e (no a) c =
      present_strip_elsewhere s q m i t b v d S hi ht hv i' t' x h k l (λ w. absurd (a w)) ∙ g.data_there i' t' x h k l e
      ∙ sym (present_strip_elsewhere z q 0 i t b v f Z hi ht hv i' t' x h k l (λ w. absurd (a w)))

  parity : (j u x : ℕ) → j < q.r → u < rows q → x < q.b → is_lost m (q.k + j) ≡ false → parity_byte us q j u x ≡ parity_byte zs q j u x
  unfolding us zs d f away_difference difference
  parity j u x h k l e =
      present_parity s q m i t b v d S hi ht hv j u x h k l
      ∙ ap₂ (λ (w y : ℕ). parity_byte s q j u x ⊕ pick (bit w u) y) (word_there q m i t j e) (ap (λ (y : ℕ). y ⊕ get_or v x 0) (old x l))
      ∙ ap (λ (y : ℕ). y ⊕ pick (bit (touch_word q i t j) u) (data_byte z q i t x ⊕ get_or v x 0)) (g.parity_there j u x h k l e)
      ∙ sym (ap (λ (w : ℕ). parity_byte z q j u x ⊕ pick (bit w u) (data_byte z q i t x ⊕ get_or v x 0)) (word_none q i t j))
      ∙ sym (present_parity z q 0 i t b v f Z hi ht hv j u x h k l)

  pub written_agrees : AgreesOutside (written z q i t b v) (away_written s q m i t b v) q m
  unfolding us zs d f away_written
  written_agrees =
      subst (λ (l : List ℕ). AgreesOutside l us q m) (written_none z q i t b v)
      (record {
        len = (present_rest s q m i t b v d S hi ht hv).len ∙ g.len ∙ sym (present_rest z q 0 i t b v f Z hi ht hv).len;
        front = λ o h. front o h (place (revision_at i) 4 o);
        count = λ o h k.
            (present_rest s q m i t b v d S hi ht hv).back o h k ∙ g.count o h k ∙ sym ((present_rest z q 0 i t b v f Z hi ht hv).back o h k);
        data_there = λ i' t' x h k l e. strip i' t' x h k l e (ℕ_discrete i i') (ℕ_discrete t t');
        parity_there = parity;
      })
