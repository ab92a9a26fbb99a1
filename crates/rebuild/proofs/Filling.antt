-- What filling the lost columns owes, strip by strip and column by column.
-- Assumes nothing.
use Prim.Native.Nat.{◌*◌, ◌+◌, ◌-◌, ◌<◌, ◌≤◌, ℕ}
use mathlib.Core.Bool.{Bool, false, true}
use mathlib.Core.List.{List}
use mathlib.Core.Path.{◌∙◌, ◌≡◌, ap, ap₂, fun_ext, subst, sym}
use native.Mathlib.Decide.{dec_lt}
use native.Mathlib.Nat.{zero-add}
use native.Mathlib.Omega.{arith}
use lib.Dec.{T, ltb}
use lib.ListN.{get_or, length, take}
use lib.Seq.{length-take-le}
use borrow.Author.Tests.{le-ltb, lt-ltb}
use borrow.Rule.Slice.PartMut.{put_mid}
use Rattle.laws.proofs.Mid.{mid_put}
use Rattle.laws.proofs.Patch.{patched}
use Rattle.laws.proofs.Rows.{row_in}
use Rattle.laws.proofs.Tab.{is_tab}
use Rattle.laws.proofs.Xor.{zero_⊕}
use Rattle.laws.specs.Choose.{choose}
use Rattle.laws.specs.Part.{put, tab}
use Rattle.laws.specs.Patch.{Patched, patch}
use Rattle.laws.specs.Xor.{◌⊕◌}
use Rattle.stripe.proofs.Places.{parity_strip_from, strip_in}
use Rattle.stripe.specs.Layout.{column_length, image_length, parity_strip_at, rows, strip_at}
use Rattle.stripe.specs.Params.{Admitted}
use Rattle.stripe.specs.Reading.{Image}
use Rattle.engine.specs.Strips.{Columns, onto, taken}
use Rattle.stripe.specs.declared.Params.{Params}
use Rattle.rebuild.proofs.Filled.{agrees_filled, filled_rebuilt}
use Rattle.rebuild.proofs.Independent.{agrees_image, whole_byte_agrees}
use Rattle.recovery.proofs.Ranges.{length_column_words, length_places, places_inside, places_lent, words_lent}
use Rattle.rebuild.proofs.Words.{words_right}
use Rattle.rebuild.specs.Agrees.{AgreesOutside}
use Rattle.rebuild.specs.Answer.{column_strip_at}
use Rattle.pattern.specs.Pattern.{few_lost, is_lost}
use Rattle.rebuild.specs.Inner.{ColumnFilled, Prepared, StripLost, StripPlace}
use Rattle.rebuild.specs.Lost.{rebuilt, whole_byte}
use Rattle.recovery.specs.Inner.{LostColumn}
use Rattle.recovery.specs.Words.{column_words, places}

-- ---- one strip of the sum, where c is the cleared strip

module _ (p t : ℕ) (src ats ws s c : List ℕ) (C : Columns p t src ats ws s) (e : c ≡ put s 0 (tab (length s) (λ o. 0))) where
  cleared : Patched s c 0 (length s) (λ o. 0)
  unfolding patch
  cleared = patched s c 0 (length s) (λ o. 0) (omega arith) e

  pub cleared_taken : (u : List ℕ) → Patched c u 0 (length c) (onto c (taken p src (length c) t ats ws)) → u ≡ tab (length s) (taken p src (length s) t ats ws)
  unfolding onto
  cleared_taken u d =
      let n : length c ≡ length s = cleared.len in
      is_tab u (length s) (taken p src (length s) t ats ws) (d.len ∙ n)
      (λ i h.
      let l : i < length c = omega (arith, d.len) in
      ap (λ (j : ℕ). get_or u j 0) (sym (zero-add i)) ∙ d.inner i l
      ∙ ap₂ (λ (a b : ℕ). a ⊕ taken p src b t ats ws i) (ap (λ (j : ℕ). get_or c j 0) (sym (zero-add i)) ∙ cleared.inner i (omega arith)) n
      ∙ zero_⊕ (taken p src (length s) t ats ws i))

-- ---- what taking a strip of a lost column asks

places_columns : (s out : List ℕ) (q : Params) (m n t : ℕ) → Image s q → T (few_lost q m) → t < rows q → length out ≡ q.b
    → Columns q.p t s (places q m) (column_words q m n) out
places_columns s out q m n t i f h e = record {
  small = i.admitted.p_high;
  row = omega arith;
  same = length_places q m f ∙ sym (length_column_words q m n);
  inside = λ v k. rw e (omega (arith, places_inside q m v k, i.len));
}

-- ---- room for the words of a lost column n, in an array w

pub lost_column : (q : Params) (m n : ℕ) (w : List ℕ) → Admitted q → n < q.k + q.r → is_lost m n ≡ true → length w ≡ 60 → LostColumn q m n (take (q.k - 0) w)
lost_column q m n w a h l e =
    let z : q.k - 0 ≡ q.k = omega arith in
    record { column = h; away = l; room = ap (λ (j : ℕ). length (take j w)) z ∙ length-take-le q.k w (omega arith) }

-- ---- restoring one strip, where the places and words came back in the arrays v and w

module _ (s : List ℕ) (q : Params) (m n t : ℕ) (out : List ℕ) (L : StripLost s q m n t out) where
  module _ (v w ats ws : List ℕ) (A : ats ≡ places q m) (W : ws ≡ column_words q m n) where
    pub strip_columns : Columns q.p t s (take (q.k - 0) (put_mid 0 (q.k - 0) v ats)) (take (q.k - 0) (put_mid 0 (q.k - 0) w ws)) out
    strip_columns = rw (places_lent q m v ats L.few A, words_lent q m n w ws W) (places_columns s out q m n t L.image L.few L.row L.room)

    pub strip_restored : (u : List ℕ)
        → u ≡ tab (length out) (taken q.p s (length out) t (take (q.k - 0) (put_mid 0 (q.k - 0) v ats)) (take (q.k - 0) (put_mid 0 (q.k - 0) w ws)))
        → u ≡ tab q.b (whole_byte s q m n t)
    strip_restored u e =
        e ∙ ap₂ (λ (a c : List ℕ). tab (length out) (taken q.p s (length out) t a c)) (places_lent q m v ats L.few A) (words_lent q m n w ws W)
        ∙ ap (λ (b : ℕ). tab b (taken q.p s b t (places q m) (column_words q m n))) L.room
        ∙ ap (tab q.b) (fun_ext (λ x. words_right s q m L.image.admitted L.few n t x L.away))

-- ---- one strip put in its place

module _ (s : List ℕ) (q : Params) (n t : ℕ) (ats ws out : List ℕ) (r : length out ≡ q.b) (l : length s ≡ image_length q) (u : List ℕ)
    (e : u ≡ tab (length out) (taken q.p s (length out) t ats ws)) (x : ℕ) (P : StripPlace q n t x) where
  strip_is : u ≡ tab q.b (taken q.p s q.b t ats ws)
  strip_is = e ∙ ap (λ (b : ℕ). tab b (taken q.p s b t ats ws)) r

  strip_put : (v : List ℕ) → v ≡ put s x u → Patched s v (column_strip_at q n t) q.b (taken q.p s q.b t ats ws)
  unfolding patch
  strip_put v f =
      subst (λ (a : ℕ). Patched s v a q.b (taken q.p s q.b t ats ws)) P.is
      (patched s v x q.b (taken q.p s q.b t ats ws) (omega (arith, P.inside)) (f ∙ ap (put s x) strip_is))

-- ---- one column

column_start : (q : Params) (n u : ℕ) → column_strip_at q n u ≡ column_strip_at q n 0 + u * q.b
column_start q n u = go (ltb n q.k)
  where
    go : (b : Bool) → choose b (strip_at q n u) (parity_strip_at q (n - q.k) u) ≡ choose b (strip_at q n 0) (parity_strip_at q (n - q.k) 0) + u * q.b
    go true = omega arith
    go false = omega arith

strip_before : (q : Params) (n u v x : ℕ) → u < v → x < q.b → column_strip_at q n u + x < column_strip_at q n v
strip_before q n u v x h l = omega (arith, column_start q n u, column_start q n v, row_in u v q.b h)

module _ (s : List ℕ) (q : Params) (m n : ℕ) (h : n < q.k + q.r) where
  module _ (ats out : List ℕ) (P : Prepared s q m ats out) (ws : List ℕ) (W : ws ≡ column_words q m n) (t : List ℕ) (v : ℕ) (D : ColumnFilled s t q m n v) (l : v < q.p - 1) where
    few : T (few_lost q m)
    few = P.repairable.few

    image : Image t q
    image = agrees_image s t q m D.agrees P.image

    pub column_asked : (o : List ℕ) → length o ≡ length out → Columns q.p v t ats ws o
    column_asked o e = rw (P.ats_are, W) (places_columns t o q m n v image few l (e ∙ P.room))

    column_step : (t' : List ℕ) → is_lost m n ≡ true → Patched t t' (column_strip_at q n v) q.b (taken q.p t q.b v ats ws) → ColumnFilled s t' q m n (v + 1)
    column_step t' a d = record {
      agrees = agrees_filled s t t' q m _ D.agrees n v h l a d;
      below = λ o k. d.below o (omega (arith, column_start q n v)) ∙ D.below o k;
      done = λ b u x k i. go u x i (dec_lt u v) k;
    }
      where
        go : (u x : ℕ) → x < q.b → Dec (u < v) → u < v + 1 → get_or t' (column_strip_at q n u + x) 0 ≡ whole_byte s q m n u x
        go u x i (yes k) b = d.below (column_strip_at q n u + x) (strip_before q n u v x k i) ∙ D.done a u x k i
        go u x i (no k) b =
            let z : u ≡ v = omega arith in
            rw z (d.inner x i
            ∙ ap₂ (λ (c y : List ℕ). taken q.p t q.b v c y x) P.ats_are W
            ∙ words_right t q m P.image.admitted few n v x a
            ∙ sym (whole_byte_agrees s t q m D.agrees x i n v h l))

    -- from a strip o, c was worked out, and copied as d into the part of t at x
    pub column_more : is_lost m n ≡ true → (o c d : List ℕ) (x : ℕ) → length o ≡ length out → c ≡ tab (length o) (taken q.p t (length o) v ats ws) → StripPlace q n v x → d ≡ c
        → ColumnFilled s (put_mid x (x + length c - x) t d) q m n (v + 1)
    column_more a o c d x e f y g =
        let k : length d ≡ x + length c - x = omega (arith, ap length g) in
        column_step _ a (strip_put t q n v ats ws o (e ∙ P.room) image.len c f x y _ (mid_put t x (x + length c - x) d k ∙ ap (put t x) g))

-- ---- all columns

-- t is s with the lost columns below n in place
pub record FilledBelow (s t : List ℕ) (q : Params) (m n : ℕ) : Type 0 where
  pub agrees : AgreesOutside s t q m
  pub done : (c u x : ℕ) → c < n → u < rows q → x < q.b → is_lost m c ≡ true → get_or t (column_strip_at q c u + x) 0 ≡ whole_byte s q m c u x

agrees_trans : (s t u : List ℕ) (q : Params) (m : ℕ) → AgreesOutside s t q m → AgreesOutside t u q m → AgreesOutside s u q m
agrees_trans s t u q m a b = record {
  len = b.len ∙ a.len;
  front = λ o h. b.front o h ∙ a.front o h;
  count = λ o h k. b.count o h k ∙ a.count o h k;
  data_there = λ i v x h k l e. b.data_there i v x h k l e ∙ a.data_there i v x h k l e;
  parity_there = λ j v x h k l e. b.parity_there j v x h k l e ∙ a.parity_there j v x h k l e;
}

-- a column ends before each later one starts
column_before : (q : Params) (c n u x : ℕ) → c < n → u < rows q → x < q.b → column_strip_at q c u + x < column_strip_at q n 0
column_before q c n u x h l k = go (dec_lt c q.k) (dec_lt n q.k)
  where
    go : Dec (c < q.k) → Dec (n < q.k) → column_strip_at q c u + x < column_strip_at q n 0
    go (yes a) (yes b) = rw (lt-ltb c q.k a, lt-ltb n q.k b) (omega (arith, row_in u (rows q) q.b l, row_in c n (column_length q) h))
    go (yes a) (no b) =
        let d : q.k ≤ n = omega arith in
        rw (lt-ltb c q.k a, le-ltb n q.k d) (omega (arith, strip_in q c u a l, parity_strip_from q (n - q.k) 0))
    go (no a) (yes b) = absurd (omega arith)
    go (no a) (no b) =
        let d : q.k ≤ n = omega arith in
        let e : q.k ≤ c = omega arith in
        let i : c - q.k < n - q.k = omega arith in
        rw (le-ltb c q.k e, le-ltb n q.k d) (omega (arith, row_in u (rows q) q.b l, row_in (c - q.k) (n - q.k) (column_length q) i))

module _ (s : List ℕ) (q : Params) (m : ℕ) (ats out : List ℕ) (P : Prepared s q m ats out) (t : List ℕ) (n : ℕ) (F : FilledBelow s t q m n) where
  pub filled_more : (t' : List ℕ) → n < q.k + q.r → ColumnFilled t t' q m n (rows q) → FilledBelow s t' q m (n + 1)
  filled_more t' h D = record {
    agrees = agrees_trans s t t' q m F.agrees D.agrees;
    done = λ c u x k l i e. go c u x l i e (dec_lt c n) k;
  }
    where
      go : (c u x : ℕ) → u < rows q → x < q.b → is_lost m c ≡ true → Dec (c < n) → c < n + 1 → get_or t' (column_strip_at q c u + x) 0 ≡ whole_byte s q m c u x
      go c u x l i e (yes k) b = D.below (column_strip_at q c u + x) (column_before q c n u x k l i) ∙ F.done c u x k l i e
      go c u x l i e (no k) b =
          let z : n ≡ c = omega arith in
          subst (λ (j : ℕ). get_or t' (column_strip_at q j u + x) 0 ≡ whole_byte s q m j u x) z
          (D.done (ap (is_lost m) z ∙ e) u x l i ∙ sym (whole_byte_agrees s t q m F.agrees x i n u h l))

  pub filled_end : n ≤ q.k + q.r → q.k + q.r ≤ n → t ≡ rebuilt s q m
  filled_end h k = filled_rebuilt s t q m P.image F.agrees (λ c u x a b l e. F.done c u x (omega arith) b l e)
