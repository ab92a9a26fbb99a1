-- "Writing while boxes are away": one write ends as on the complete right image, and so does a list of writes; demand 3 for this mode.
-- Assumes nothing.
use Prim.Native.Nat.{ℕ, ◌+◌, ◌<◌}
use mathlib.Core.Bool.{Bool, true, false, ◌&&◌}
use mathlib.Core.List.{List, [], ◌∷◌, map}
use mathlib.Core.Option.{Option, none, some}
use mathlib.Core.Path.{◌≡◌, refl, sym, ap, ap₂, subst, subst₂, ◌∙◌}
use native.Mathlib.Omega.{arith}
use lib.Dec.{eqb, ltb}
use lib.ListN.{length, get_or}
use lib.Seq.{ext_get_or}
use Rattle.std.specs.Prelude.{Result, Ok, Err}
use Rattle.laws.proofs.Choose.{T_true}
use Rattle.laws.specs.Choose.{choose}
use Rattle.laws.specs.Left.{Left}
use Rattle.stripe.proofs.Frame.{image_read}
use Rattle.stripe.specs.Layout.{rows, revision_at, data_from, revision_of, data_byte, parity_byte}
use Rattle.stripe.specs.Reading.{Image, read_of}
use Rattle.stripe.specs.declared.Params.{Params}
use Rattle.block.specs.Parity.{Right}
use Rattle.block.specs.Touches.{count}
use Rattle.pattern.specs.Pattern.{is_lost, pattern_fits, few_lost}
use Rattle.rebuild.proofs.Cells.{rebuilt_data}
use Rattle.rebuild.proofs.Independent.{agrees_image, whole_data_agrees, rebuilt_keeps}
use Rattle.rebuild.specs.Agrees.{AgreesOutside}
use Rattle.rebuild.specs.Lost.{rebuilt, whole_data}
use Rattle.revision.specs.Revision.{judged, renewed, is_current}
use Rattle.revision.specs.declared.Age.{Age}
use Rattle.write.specs.Written.{written}
use Rattle.present.specs.Present.{present_count}
use Rattle.away.proofs.Agreeing.{away_stays, written_agrees}
use Rattle.away.specs.Away.{away_written, away_judged, away_sound, away_read, away_of}
use Rattle.away.specs.Stays.{Stays}
use Rattle.store.proofs.Carry.{sound_column, sound_row}
use Rattle.store.proofs.Keyed.{accepts_sound}
use Rattle.store.proofs.Lists.{and_right, true_eqb}
use Rattle.store.proofs.Order.{reply_unsound}
use Rattle.store.proofs.Shuffle.{shuffled_map}
use Rattle.store.proofs.Split.{log_split}
use Rattle.store.specs.Image.{image_log, image_last}
use Rattle.store.specs.Kinds.{keyed, by_column, Arrangement}
use Rattle.store.specs.Lists.{keep, Shuffled}
use Rattle.store.specs.Store.{Rules, Write, Entry, Logged, sound, accepts, reply, answer, under, later, hits, last_accepted, byte_of}
use Rattle.promises.proofs.Changed.{write_keeps_right}
use Rattle.promises.proofs.Cover.{Lies, lies, in_head, at_revision, at_data_count, at_strip, at_parity_count, at_parity}
use Rattle.promises.proofs.Rebuilt.{whole_data_right, rebuilt_right, rebuilt_image}
use Rattle.promises.proofs.Demand3.{Good, stays, good_first, refused_exactly, demand_3}
use Rattle.promises.proofs.Accepted.{reads_image, image_reads}
use Rattle.promises.proofs.Writes.{counting, rules, aged, replied, case, case_told, case_left, told_is, left_is}
use Rattle.promises.specs.Away.{write_away, told_away, left_away, answers_away, last_away, Complete, Completed, recounted, AsIf, Demand3Away}
use Rattle.promises.specs.Demand2.{Pattern}
use Rattle.promises.specs.Demand3.{Answer, answer_of, is_accepted, told, left, answers, last_image, RevisionBytes, ExactlyRefused, EachRefusedExactly, Demand3}
use Rattle.write.specs.declared.Accepted.{Accepted}
use Rattle.write.specs.declared.Refused.{Refused}
use Rattle.write.specs.declared.Refused.TheVariants.{Aged}

-- ---- lists

keep_map : {A B : Type 0} (p : A → Bool) (r : B → Bool) (f : A → B) → ((x : A) → r (f x) ≡ p x) → (l : List A) → keep r (map f l) ≡ map f (keep p l)
unfolding keep
keep_map p r f e [] = refl
keep_map p r f e (x ∷ l) = go (p x) (e x) (keep_map p r f e l)
  where
    go : (b : Bool) → r (f x) ≡ b → keep r (map f l) ≡ map f (keep p l) → choose (r (f x)) (f x ∷ keep r (map f l)) (keep r (map f l)) ≡ map f (choose b (x ∷ keep p l) (keep p l))
    go true h ih = rw h (ap (λ k. f x ∷ k) ih)
    go false h ih = rw h ih

-- two images that agree outside the lost columns with one image, and in them with another, are one
same_both : (z s u v : List ℕ) (q : Params) (m : ℕ) → Image z q → AgreesOutside z u q m → AgreesOutside z v q m → Stays s u q m → Stays s v q m → u ≡ v
same_both z s u v q m i g h a b =
    ext_get_or 0 u v (g.len ∙ sym h.len) (λ o l. go o (lies q i.admitted o (omega (arith, g.len, i.len))))
  where
    strip : (c t x : ℕ) → c < q.k → t < rows q → x < q.b → (y : Bool) → is_lost m c ≡ y → data_byte u q c t x ≡ data_byte v q c t x
    strip c t x hc ht hx true e = a.data_stays c t x hc ht hx e ∙ sym (b.data_stays c t x hc ht hx e)
    strip c t x hc ht hx false e = g.data_there c t x hc ht hx e ∙ sym (h.data_there c t x hc ht hx e)

    parity : (j t x : ℕ) → j < q.r → t < rows q → x < q.b → (y : Bool) → is_lost m (q.k + j) ≡ y → parity_byte u q j t x ≡ parity_byte v q j t x
    parity j t x hj ht hx true e = a.parity_stays j t x hj ht hx e ∙ sym (b.parity_stays j t x hj ht hx e)
    parity j t x hj ht hx false e = g.parity_there j t x hj ht hx e ∙ sym (h.parity_there j t x hj ht hx e)

    front : (o : ℕ) → o < data_from q → get_or u o 0 ≡ get_or v o 0
    front o l = g.front o l ∙ sym (h.front o l)

    go : (o : ℕ) → Lies q o → get_or u o 0 ≡ get_or v o 0
    go o (in_head l) = front o (omega arith)
    go o (at_revision c n l k e) = front o (omega arith)
    go o (at_data_count l k) = front o k
    go o (at_strip c t x hc ht hx e) = rw e (strip c t x hc ht hx (is_lost m c) refl)
    go o (at_parity_count l k) = g.count o l k ∙ sym (h.count o l k)
    go o (at_parity j t x hj ht hx e) = rw e (parity j t x hj ht hx (is_lost m (q.k + j)) refl)

pub agrees_refl : (s : List ℕ) (q : Params) (m : ℕ) → AgreesOutside s s q m
agrees_refl s q m = record { len = refl; front = λ o h. refl; count = λ o h k. refl; data_there = λ i t x h k l e. refl; parity_there = λ j t x h k l e. refl }

pub revisions_alike : (z s : List ℕ) (q : Params) (m : ℕ) → AgreesOutside z s q m → (i : ℕ) → i < q.k → revision_of s i ≡ revision_of z i
revisions_alike z s q m g i h =
    let a : ℕ = revision_at i in
    omega (arith, g.front a (omega arith), g.front (a + 1) (omega arith), g.front (a + 2) (omega arith), g.front (a + 2 + 1) (omega arith))

pub agrees_sym : (s z : List ℕ) (q : Params) (m : ℕ) → AgreesOutside s z q m → AgreesOutside z s q m
agrees_sym s z q m g = record {
  len = sym g.len;
  front = λ o h. sym (g.front o h);
  count = λ o h l. sym (g.count o h l);
  data_there = λ i t x hi ht hx e. sym (g.data_there i t x hi ht hx e);
  parity_there = λ j t x hj ht hx e. sym (g.parity_there j t x hj ht hx e);
}

stays_trans : (s u v : List ℕ) (q : Params) (m : ℕ) → Stays s u q m → Stays u v q m → Stays s v q m
stays_trans s u v q m a b = record {
  data_stays = λ i t x h k l e. b.data_stays i t x h k l e ∙ a.data_stays i t x h k l e;
  parity_stays = λ j t x h k l e. b.parity_stays j t x h k l e ∙ a.parity_stays j t x h k l e;
}

stays_refl : (s : List ℕ) (q : Params) (m : ℕ) → Stays s s q m
stays_refl s q m = record { data_stays = λ i t x h k l e. refl; parity_stays = λ j t x h k l e. refl }

-- ---- one write

module _ (q : Params) (m : ℕ) (w : Write) where
  abbrev R : Rules Answer
  R = counting q (present_count q m)

  -- the two stores differ in the count of an accepted write only
  recounted_aged : (g : Age) → aged (present_count q m) w g ≡ recounted q m w (aged (count q) w g)
  unfolding recounted
  recounted_aged g = go (is_current g) refl
    where
      go : (b : Bool) → is_current g ≡ b
          → answer_of (choose b (Ok (record { revision = renewed w.base; count = present_count q m w.column w.row })) (Err (Aged g)))
          ≡ recounted q m w (answer_of (choose b (Ok (record { revision = renewed w.base; count = count q w.column w.row })) (Err (Aged g))))
      go true e = refl
      go false e = rw e

  recounted_cases : (x y z : Bool) (g : Age) → replied (present_count q m) w x y z g ≡ recounted q m w (replied (count q) w x y z g)
  unfolding recounted
  recounted_cases true true true g = recounted_aged g
  recounted_cases true true false g = refl
  recounted_cases true false z g = refl
  recounted_cases false y z g = refl

  reply_recounted : (n : ℕ) → reply R n w ≡ recounted q m w (reply (rules q) n w)
  unfolding reply sound
  reply_recounted n = recounted_cases (ltb w.column q.k) (ltb w.row (rows q)) (eqb (length w.strip) q.b) (judged n w.base)

  accepts_alike : (n : ℕ) → accepts R n w ≡ accepts (rules q) n w
  unfolding accepts recounted
  accepts_alike n = ap is_accepted (reply_recounted n)

  width_of : sound (rules q) w ≡ true → length w.strip ≡ q.b
  unfolding sound
  width_of e =
      true_eqb (length w.strip) q.b
      (and_right (ltb w.row (rows q)) (eqb (length w.strip) q.b) (and_right (ltb w.column q.k) (ltb w.row (rows q) && eqb (length w.strip) q.b) e))

  module _ (P : Pattern q m) (s : List ℕ) (I : Image s q) where
    abbrev new : List ℕ
    new = away_written s q m w.column w.row w.base w.strip

    found : write_away m s w ≡ case s q w (present_count q m) new
    unfolding away_of away_read away_sound away_judged
    found =
        ap (away_read s m w.column w.row w.base w.strip) (sym (image_read s q I))
        ∙ rw (T_true (pattern_fits q m) P.fits, T_true (few_lost q m) P.few)

    told_away_is : told_away m s w ≡ reply R (revision_of s w.column) w
    unfolding answer keyed
    told_away_is = ap (λ (l : Left (Result Accepted Refused)). answer_of l.answer) found ∙ case_told s q w (present_count q m) new

    pub left_away_is : left_away m s w ≡ choose (accepts (rules q) (revision_of s w.column) w) new s
    left_away_is =
        ap (λ (l : Left (Result Accepted Refused)). l.image) found ∙ case_left s q w (present_count q m) new
        ∙ ap (λ (b : Bool). choose b new s) (accepts_alike (revision_of s w.column))

  module _ (P : Pattern q m) (z s : List ℕ) (Z : Image z q) (g : AgreesOutside z s q m) where
    S : Image s q
    S = agrees_image z s q m g Z

    reply_alike : reply (rules q) (revision_of s w.column) w ≡ reply (rules q) (revision_of z w.column) w
    reply_alike = go (sound (rules q) w) refl
      where
        go : (b : Bool) → sound (rules q) w ≡ b → reply (rules q) (revision_of s w.column) w ≡ reply (rules q) (revision_of z w.column) w
        go true e = ap (λ (n : ℕ). reply (rules q) n w) (revisions_alike z s q m g w.column (sound_column (rules q) w e))
        go false e = reply_unsound (rules q) (revision_of s w.column) (revision_of z w.column) w e

    accept_alike : accepts (rules q) (revision_of s w.column) w ≡ accepts (rules q) (revision_of z w.column) w
    unfolding accepts
    accept_alike = ap is_accepted reply_alike

    -- answered alike but for the count
    pub told_alike : told_away m s w ≡ recounted q m w (told z w)
    unfolding answer keyed
    told_alike = told_away_is P s S ∙ reply_recounted (revision_of s w.column) ∙ ap (recounted q m w) (reply_alike ∙ sym (told_is z q w Z))

    pub left_stays : Stays s (left_away m s w) q m
    left_stays = go (accepts (rules q) (revision_of s w.column) w) refl
      where
        go : (b : Bool) → accepts (rules q) (revision_of s w.column) w ≡ b → Stays s (left_away m s w) q m
        go true e =
            let k = accepts_sound (rules q) (revision_of s w.column) w e in
            subst (λ (l : List ℕ). Stays s l q m) (sym (left_away_is P s S ∙ ap (λ (b : Bool). choose b (new P s S) s) e))
            (away_stays s q m w.column w.row w.base w.strip S (sound_column (rules q) w k) (sound_row (rules q) w k) (width_of k))
        go false e =
            subst (λ (l : List ℕ). Stays s l q m) (sym (left_away_is P s S ∙ ap (λ (b : Bool). choose b (new P s S) s) e)) (stays_refl s q m)

    -- "its old strip is restored first": it is z's
    module _ (old : (i t x : ℕ) → i < q.k → t < rows q → x < q.b → whole_data s q m i t x ≡ data_byte z q i t x) where
      pub left_agrees_by : AgreesOutside (left z w) (left_away m s w) q m
      left_agrees_by = go (accepts (rules q) (revision_of z w.column) w) refl
        where
          there : (b : Bool) → accepts (rules q) (revision_of z w.column) w ≡ b → left_away m s w ≡ choose b (new P s S) s
          there b e = left_away_is P s S ∙ ap (λ (b : Bool). choose b (new P s S) s) (accept_alike ∙ e)

          here : (b : Bool) → accepts (rules q) (revision_of z w.column) w ≡ b → left z w ≡ choose b (written z q w.column w.row w.base w.strip) z
          here b e = left_is z q w Z ∙ ap (λ (b : Bool). choose b (written z q w.column w.row w.base w.strip) z) e

          go : (b : Bool) → accepts (rules q) (revision_of z w.column) w ≡ b → AgreesOutside (left z w) (left_away m s w) q m
          go true e =
              let k = accepts_sound (rules q) (revision_of z w.column) w e in
              let hi = sound_column (rules q) w k in
              let ht = sound_row (rules q) w k in
              subst₂ (λ (a b : List ℕ). AgreesOutside a b q m) (sym (here true e)) (sym (there true e))
              (written_agrees z s q m w.column w.row w.base w.strip Z g hi ht (width_of k) (λ x hx. old w.column w.row x hi ht hx))
          go false e = subst₂ (λ (a b : List ℕ). AgreesOutside a b q m) (sym (here false e)) (sym (there false e)) g

    -- so it is where z is right
    pub left_agrees : Right z q → AgreesOutside (left z w) (left_away m s w) q m
    left_agrees r = left_agrees_by (λ i t x hi ht hx. sym (whole_data_agrees z s q m g x hx i t hi ht) ∙ whole_data_right z q m Z r P.few i t x hi ht hx)

-- of any accepted image: present columns end as if the write had been made on the image that rebuild gives
pub as_if_rebuilt : (s : List ℕ) (q : Params) (m : ℕ) → Pattern q m → read_of s ≡ Ok q → (w : Write) → AgreesOutside (left (rebuilt s q m) w) (left_away m s w) q m
as_if_rebuilt s q m P reads w =
    let I : Image s q = reads_image s q reads in
    left_agrees_by q m w P (rebuilt s q m) s (rebuilt_image s q m I) (agrees_sym s (rebuilt s q m) q m (rebuilt_keeps s q m I))
    (λ i t x hi ht hx. sym (rebuilt_data s q m I.len i t x hi ht hx))

pub small_z : (z s : List ℕ) (q : Params) (m : ℕ) → AgreesOutside z s q m → RevisionBytes s q → RevisionBytes z q
small_z z s q m g b o l h = subst (λ (x : ℕ). x < 256) (g.front o (omega arith)) (b o l h)

-- "Present columns must end as if the write had been made on the complete right image, with this image's revisions, and the columns lost afterwards."
pub as_if : (z s : List ℕ) (q : Params) (m : ℕ) → Pattern q m → RevisionBytes s q → Complete z s q m → (w : Write) → AsIf z s q m w
as_if z s q m P b c w =
    let Z : Image z q = reads_image z q c.accepted in
    let small = small_z z s q m c.agrees b in
    let i = (stays z q z w (good_first z q Z small)).accepted in
    let r = write_keeps_right z q c.accepted small w c.right in
    let g = left_agrees q m w P z s Z c.agrees c.right in
    record {
      complete = record { accepted = image_reads (left z w) q i; right = r; agrees = g };
      rebuilds = rebuilt_right (left z w) (left_away m s w) q m i r P.few g;
      stays = left_stays q m w P z s Z c.agrees;
      answered = told_alike q m w P z s Z c.agrees;
    }

-- ---- a list of writes, on the image and on the complete right one

module _ (q : Params) (m : ℕ) (P : Pattern q m) where
  relogged : Logged Answer → Logged Answer
  relogged x = record { entry = x.entry; answer = recounted q m x.entry.write x.answer }

  under_relogged : (n : ℕ) (l : List (Logged Answer)) → under n (map relogged l) ≡ map relogged (under n l)
  unfolding relogged
  under_relogged n = keep_map (λ x. eqb x.entry.number n) (λ x. eqb x.entry.number n) relogged (λ x. refl)

  accepted_relogged : (i t : ℕ) (l : List (Logged Answer)) → last_accepted is_accepted i t (map relogged l) ≡ last_accepted is_accepted i t l
  unfolding last_accepted relogged recounted
  accepted_relogged i t [] = refl
  accepted_relogged i t (x ∷ l) = ap (λ (o : Option Write). later o (choose (hits is_accepted i t x) (some x.entry.write) none)) (accepted_relogged i t l)

  module _ (z₀ s₀ : List ℕ) where
    record Tied (z s : List ℕ) : Type 0 where
      good : Good z₀ q z
      right : Right z q
      agrees : AgreesOutside z s q m
      kept : Stays s₀ s q m

    tied_step : (z s : List ℕ) (w : Write) → Tied z s → Tied (left z w) (left_away m s w)
    tied_step z s w t = record {
      good = stays z₀ q z w t.good;
      right = write_keeps_right z q (image_reads z q t.good.accepted) t.good.small w t.right;
      agrees = left_agrees q m w P z s t.good.accepted t.agrees t.right;
      kept = stays_trans s₀ s (left_away m s w) q m t.kept (left_stays q m w P z s t.good.accepted t.agrees);
    }

    -- a write is refused on the one exactly where it is on the other
    tied_exactly : (z s : List ℕ) (w : Write) → Tied z s → ExactlyRefused (told_away m) q s w
    unfolding recounted
    tied_exactly z s w t h =
        let e : (told_away m s w).refusal ≡ (told z w).refusal = ap (λ (x : Answer). x.refusal) (told_alike q m w P z s t.good.accepted t.agrees) in
        let n : revision_of s w.column ≡ revision_of z w.column = revisions_alike z s q m t.agrees w.column h.column_in in
        let r = refused_exactly q z w t.good.accepted t.good.small h in
        (λ f. n ∙ r.0 (sym e ∙ f), λ f. e ∙ r.1 (sym n ∙ f))

    tied_small : (z s : List ℕ) → Tied z s → RevisionBytes s q
    tied_small z s t o l h = subst (λ (x : ℕ). x < 256) (sym (t.agrees.front o (omega arith))) (t.good.small o l h)

    tied_last : (es : List Entry) (z s : List ℕ) → Tied z s → Tied (last_image z es) (last_away m s es)
    unfolding image_last
    tied_last [] z s t = t
    tied_last (e ∷ es) z s t = tied_last es (left z e.write) (left_away m s e.write) (tied_step z s e.write t)

    tied_log : (es : List Entry) (z s : List ℕ) → Tied z s → answers_away m s es ≡ map relogged (answers z es)
    unfolding image_log relogged
    tied_log [] z s t = refl
    tied_log (e ∷ es) z s t =
        ap₂ (λ (a : Answer) (l : List (Logged Answer)). record { entry = e; answer = a } ∷ l) (told_alike q m e.write P z s t.good.accepted t.agrees)
        (tied_log es (left z e.write) (left_away m s e.write) (tied_step z s e.write t))

-- demand 3 "for this mode"
pub demand_3_away : (s : List ℕ) (q : Params) (m : ℕ) → RevisionBytes s q → Pattern q m → Completed s q m
    → (es fs : List Entry) → Arrangement by_column q.k es fs → Demand3Away s q m es fs
unfolding recounted
demand_3_away s q m b P c es fs a = record {
  same_answers = subst₂ Shuffled (sym (logs es)) (sym (logs fs)) (shuffled_map (relogged q m P) all.same_answers);
  by_number = λ once n.
      ap (under n) (logs es) ∙ under_relogged q m P n (answers z es) ∙ ap (map (relogged q m P)) (all.by_number once n)
      ∙ sym (under_relogged q m P n (answers z fs)) ∙ ap (under n) (sym (logs fs));
  same_image =
      same_both (last_image z es) s (last_away m s es) (last_away m s fs) q m (ends es).good.accepted (ends es).agrees
      (subst (λ (l : List ℕ). AgreesOutside l (last_away m s fs) q m) (sym all.same_image) (ends fs).agrees) (ends es).kept (ends fs).kept;
  stays = (ends es).kept;
  still_accepted = image_reads (last_away m s es) q (agrees_image (last_image z es) (last_away m s es) q m (ends es).agrees (ends es).good.accepted);
  still_bytes = tied_small q m P z s (last_image z es) (last_away m s es) (ends es);
  still_completed = record { whole = last_image z es; is = record { accepted = all.still_accepted; right = (ends es).right; agrees = (ends es).agrees } };
  last_strips = λ i t x hi ht hx.
      ap (λ (l : List ℕ). data_byte l q i t x) (rebuilt_end es) ∙ all.last_strips i t x hi ht hx
      ∙ ap₂ (λ (o : Option Write) (l : List ℕ). byte_of o (data_byte l q i t x) x)
      (sym (ap (last_accepted is_accepted i t) (logs es) ∙ accepted_relogged q m P i t (answers z es))) (sym rebuilt_start);
  right_stays = subst (λ (l : List ℕ). Right l q) (sym (rebuilt_end es)) (ends es).right;
  refused_exactly = each es;
  refused_exactly_too = each fs;
}
  where
    z : List ℕ
    z = c.whole

    Z : Image z q
    Z = reads_image z q c.is.accepted

    small : RevisionBytes z q
    small = small_z z s q m c.is.agrees b

    all : Demand3 z q es fs
    all = demand_3 z q c.is.accepted small es fs a

    first : Tied q m P z s z s
    first = record { good = good_first z q Z small; right = c.is.right; agrees = c.is.agrees; kept = stays_refl s q m }

    logs : (es : List Entry) → answers_away m s es ≡ map (relogged q m P) (answers z es)
    logs es = tied_log q m P z s es z s first

    ends : (es : List Entry) → Tied q m P z s (last_image z es) (last_away m s es)
    ends es = tied_last q m P z s es z s first

    rebuilt_start : rebuilt s q m ≡ z
    rebuilt_start = rebuilt_right z s q m Z c.is.right P.few c.is.agrees

    rebuilt_end : (es : List Entry) → rebuilt (last_away m s es) q m ≡ last_image z es
    rebuilt_end es = rebuilt_right (last_image z es) (last_away m s es) q m (ends es).good.accepted (ends es).right P.few (ends es).agrees

    each : (es : List Entry) → EachRefusedExactly (told_away m) (left_away m) s q es
    each es = record {
      logged = λ before after e h. ap (answers_away m s) h ∙ log_split (told_away m) (left_away m) before after e s;
      exactly = λ before after e h. tied_exactly q m P z s (last_image z before) (last_away m s before) e.write (ends before);
    }
