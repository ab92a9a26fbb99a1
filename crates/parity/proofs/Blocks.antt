-- What putting parity in its place, and checking it, block by block of lanes owes.
-- Assumes nothing.
use Prim.Native.Nat.{ℕ, ◌+◌, ◌*◌, ◌%◌, ◌<◌, ◌/◌, ◌≤◌}
use mathlib.Core.Bool.{Bool, true, false, not}
use mathlib.Core.List.{List}
use mathlib.Core.Path.{◌≡◌, ap, ◌∙◌, sym, refl}
use native.Mathlib.Decide.{ℕ_discrete, dec_lt}
use native.Mathlib.Nat.{mod-lt}
use native.Mathlib.Omega.{arith}
use lib.Dec.{eqb}
use lib.ListN.{get_or, length, get_or-eq_default}
use mir.Val.{bool_byte}
use borrow.Author.Tests.{eq-eqb, ne_eqb}
use Rattle.laws.proofs.Choose.{true_T}
use Rattle.laws.proofs.Patch.{is_patch}
use Rattle.laws.specs.Choose.{choose}
use Rattle.stripe.proofs.Frame.{image_same}
use Rattle.stripe.specs.Layout.{rows, data_byte, column_length, parity_from, parity_byte, parity_strip_at}
use Rattle.stripe.specs.Params.{Admitted}
use Rattle.stripe.specs.Reading.{Image}
use Rattle.stripe.specs.declared.Params.{Params}
use Rattle.quotient.specs.Lanes.{Shows}
use Rattle.parity.proofs.Columns.{same_due, column_some}
use Rattle.parity.proofs.Rightness.{row_of, row_lt, right_bytes, bytes_right}
use Rattle.parity.specs.Answer.{parity_right}
use Rattle.block.specs.Inner.{BlockFilled, LanesRight}
use Rattle.parity.specs.Inner.{Starts, ColumnFilled, ColumnAsked, ColumnsFilled, wrong_bit}
use Rattle.block.specs.Parity.{due, refilled, due_at}

-- ---- a column, block by block

-- a change of parity leaves an image
image_kept : (s t : List ℕ) (q : Params) → Image s q → length t ≡ length s → ((o : ℕ) → o < parity_from q → get_or t o 0 ≡ get_or s o 0) → Image t q
image_kept s t q I l h = image_same s t q I l (λ o k. h o (omega arith)) (λ o k m. h o (omega arith)) (λ o k m. h o m)

module _ (s acc₀ t : List ℕ) (q : Params) (j w l : ℕ) (A : ColumnAsked s acc₀ q j w) (C : ColumnFilled s t q j l) where
  pub column_more : (u : List ℕ) (a n : ℕ) → Starts l w q.b a → BlockFilled t u q j a (a + w) → n ≤ l + w → ColumnFilled s u q j n
  column_more u a n S B g = record {
    len = B.len ∙ C.len;
    head = λ o h. B.head o h ∙ C.head o h;
    lanes = λ v x h k m. go v x h (omega arith) m (dec_lt x a) (dec_lt x (a + w));
    rest = λ i v x n h k. B.rest i v x h k (λ z. absurd (n z)) ∙ C.rest i v x n h k;
  }
    where
      go : (v x : ℕ) → v < rows q → x < l + w → x < q.b → Dec (x < a) → Dec (x < a + w) → parity_byte u q j v x ≡ due q (data_byte s q) j v x
      go v x h k m (yes g) d = B.rest j v x h m (λ z y r. absurd (omega arith)) ∙ C.lanes v x h (omega (arith, S.low)) m
      go v x h k m (no g) (yes d) = B.lanes v x h (omega arith) d ∙ same_due s t q j v x C.head m
      go v x h k m (no g) (no d) = absurd (d (S.reach x k m))

-- ---- all columns

module _ (s t : List ℕ) (q : Params) (j : ℕ) (C : ColumnsFilled s t q j) where
  pub columns_more : (u : List ℕ) → ColumnFilled t u q j q.b → ColumnsFilled s u q (j + 1)
  columns_more u D = record {
    len = D.len ∙ C.len;
    head = λ o h. D.head o h ∙ C.head o h;
    lanes = λ i v x h k m. go i v x h k m (ℕ_discrete i j);
  }
    where
      go : (i v x : ℕ) → i < j + 1 → v < rows q → x < q.b → Dec (i ≡ j) → parity_byte u q i v x ≡ due q (data_byte s q) i v x
      go i v x h k m (yes z) = rw z (D.lanes v x k m m ∙ same_due s t q j v x C.head m)
      go i v x h k m (no z) = D.rest i v x z k m ∙ C.lanes i v x (omega arith) k m

  pub columns_end : Image s q → j ≤ q.r → q.r ≤ j → t ≡ refilled s q
  unfolding refilled due_at
  columns_end I h g =
      let c : ℕ = column_length q in
      let n : ℕ = q.r * c in
      let some : 0 < q.b = omega (arith, I.admitted.b_low) in
      is_patch s t (parity_from q) n (due_at q (data_byte s q)) (omega (arith, I.len)) (record {
        len = C.len;
        below = C.head;
        inner = λ o l.
            let i : ℕ = o / c in
            let m : ℕ = o % c in
            let v : ℕ = m / q.b in
            let x : ℕ = m % q.b in
            let lm : m < c = mod-lt o (column_some q I.admitted) in
            let z : parity_from q + o ≡ parity_strip_at q i v + x = omega (arith, row_of o c, row_of m q.b) in
            let k : i < q.r = row_lt o q.r c l in
            ap (λ (y : ℕ). get_or t y 0) z ∙ C.lanes i v x (omega arith) (row_lt m (rows q) q.b lm) (mod-lt m some);
        above = λ o l.
            let ls : length s ≤ o = omega (arith, I.len) in
            let lt : length t ≤ o = omega (arith, C.len) in
            get_or-eq_default t 0 lt ∙ sym (get_or-eq_default s 0 ls);
      })

-- the image that a column leaves
pub image_column : (s t : List ℕ) (q : Params) (j n : ℕ) → Image s q → ColumnFilled s t q j n → Image t q
image_column s t q j n I C = image_kept s t q I C.len C.head

-- ---- checking a column

pub shown_more : (s : List ℕ) (q : Params) (j w l a bad bad' : ℕ) → Shows 0 bad (LanesRight s q j 0 l) → Shows bad bad' (LanesRight s q j a (a + w)) → Starts l w q.b a
    → Shows 0 bad' (LanesRight s q j 0 (l + w))
shown_more s q j w l a bad bad' F B S = record {
  clean = λ h R.
      B.clean (F.clean h (record { bytes = λ t x k c m g. R.bytes t x k c (omega arith) g }))
      (record { bytes = λ t x k c m g. R.bytes t x k (omega arith) (omega (arith, S.low)) g });
  told = λ h. let b = B.told h in let f = F.told b.0 in (f.0, record { bytes = λ t x k c m g. go t x k m g f.1 b.1 (dec_lt x l) });
}
  where
    go : (t x : ℕ) → t < rows q → x < l + w → x < q.b → LanesRight s q j 0 l → LanesRight s q j a (a + w) → Dec (x < l) → parity_byte s q j t x ≡ due q (data_byte s q) j t x
    go t x k m g L R (yes c) = L.bytes t x k (omega arith) c g
    go t x k m g L R (no c) = R.bytes t x k (omega (arith, S.low)) (S.reach x m g) g

-- the flag of bad, where the lanes below l, and so all, were checked
pub flagged : (s : List ℕ) (q : Params) (j l bad : ℕ) → Admitted q → q.b ≤ l → Shows 0 bad (LanesRight s q j 0 l) → (r c : ℕ) → r ≡ bool_byte (not (eqb c 0)) → c ≡ bad → r ≡ wrong_bit s q j
unfolding wrong_bit
flagged s q j l bad A h S r c e f = e ∙ ap (λ (x : ℕ). bool_byte (not (eqb x 0))) f ∙ go (parity_right s q j) refl
  where
    go : (b : Bool) → b ≡ parity_right s q j → ◌≡◌ {A = ℕ} (bool_byte (not (eqb bad 0))) (choose b 0 1)
    go true z = ap (λ (c : Bool). bool_byte (not c)) (eq-eqb bad 0 (S.clean refl (record { bytes = λ t x k c m g. right_bytes s q j (sym z) t x k g })))
    go false z =
        ap (λ (c : Bool). bool_byte (not c))
        (ne_eqb bad 0 (λ e.
        let w : true ≡ false = sym (bytes_right s q j A (λ t x k g. (S.told e).1.bytes t x k (omega arith) (omega arith) g)) ∙ sym z in
        absurd (true_T false (sym w))))
