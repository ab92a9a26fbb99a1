-- "Say how far behind": what the distance beside an answer says, and that n writes accepted since a base was current leave it n notes behind.
-- Assumes nothing.
use Prim.Native.Nat.{ℕ, ◌+◌, ◌-◌, ◌%◌, ◌<◌, ◌≤◌, ◌^◌}
use mathlib.Core.Bool.{Bool, true, false, ◌&&◌}
use mathlib.Core.List.{List, [], ◌∷◌}
use mathlib.Core.Path.{◌≡◌, refl, sym, ap, ap₂, subst, ◌∙◌}
use native.Mathlib.Omega.{arith}
use lib.Dec.{eqb, ltb}
use lib.ListN.{length}
use Rattle.std.specs.Prelude.{Ok, Err}
use Rattle.laws.specs.Choose.{choose}
use Rattle.stripe.specs.Layout.{rows, revision_of}
use Rattle.stripe.specs.Reading.{Image, read_of}
use Rattle.stripe.specs.declared.Params.{Params}
use Rattle.block.specs.Touches.{count}
use Rattle.rebuild.proofs.Independent.{agrees_image, rebuilt_keeps}
use Rattle.rebuild.specs.Agrees.{AgreesOutside}
use Rattle.rebuild.specs.Lost.{rebuilt}
use Rattle.revision.proofs.Circle.{judged_current, older_exactly, age_told}
use Rattle.revision.specs.Revision.{judged, renewed, is_current, age_number, age_distance, DistanceTold}
use Rattle.revision.specs.declared.Age.{Age}
use Rattle.revision.specs.declared.Age.TheVariants.{Older}
use Rattle.store.proofs.Carry.{sound_column}
use Rattle.store.proofs.Keyed.{accepts_sound}
use Rattle.store.proofs.Lists.{true_eqb, true_ltb}
use Rattle.store.proofs.Split.{last_keeps}
use Rattle.store.specs.Image.{image_log, image_last}
use Rattle.store.specs.Kinds.{keyed}
use Rattle.store.specs.Lists.{keep}
use Rattle.store.specs.Store.{Write, Entry, Logged, sound, accepts, reply, answer, after, put}
use Rattle.promises.proofs.Away.{agrees_refl, agrees_sym, revisions_alike, small_z, told_alike, as_if_rebuilt}
use Rattle.promises.proofs.Cover.{bytes_revision}
use Rattle.promises.proofs.Rebuilt.{rebuilt_image}
use Rattle.promises.proofs.Demand3.{Good, good_first, stays, steps, age_zero, told_sound}
use Rattle.promises.proofs.Accepted.{reads_image, image_reads}
use Rattle.promises.proofs.Writes.{rules, view, aged, replied, told_is}
use Rattle.promises.specs.Away.{told_away, left_away, answers_away, last_away, recounted}
use Rattle.promises.specs.Behind.{SaysDistance, accepted_to, Bases, none, one_more, notes_behind, ThreeNotesBehind}
use Rattle.promises.specs.Demand2.{Pattern}
use Rattle.promises.specs.Demand3.{Answer, answer_of, is_accepted, told, left, answers, last_image, RevisionBytes, Sound}
use Rattle.write.specs.declared.Refused.TheVariants.{Aged}

-- ---- what the distance says

module _ (w : Write) (n : ℕ) (c : ℕ → ℕ → ℕ) (hb : w.base < 2 ^ 32) where
  no_distance : (k : ℕ) → k < 10 → DistanceTold n w.base k 0
  no_distance k h = record {
    stale = λ e. absurd (omega (arith, e));
    ahead = λ e. absurd (omega (arith, e));
    unclear = λ e. absurd (omega (arith, e));
    else_none = λ a b. refl;
  }

  says_aged : n < 2 ^ 32 → (x : Bool)
      → let a = answer_of (choose x (Ok (record { revision = renewed w.base; count = c w.column w.row })) (Err (Aged (judged n w.base)))) in DistanceTold n w.base a.refusal a.distance
  says_aged hn true = no_distance 0 (omega arith)
  says_aged hn false = age_told n w.base hn hb

  says : (x y z : Bool) → (x ≡ true → n < 2 ^ 32) → let a = replied c w x y z (judged n w.base) in DistanceTold n w.base a.refusal a.distance
  says true true true hn = says_aged (hn refl) (is_current (judged n w.base))
  says true true false hn = no_distance 7 (omega arith)
  says true false z hn = no_distance 9 (omega arith)
  says false y z hn = no_distance 8 (omega arith)

-- "The revision comparison now answers with the distance as well", and "Write .. hand[s] it on"
pub distance_told : (s : List ℕ) (q : Params) (w : Write) → read_of s ≡ Ok q → RevisionBytes s q → w.base < 2 ^ 32 → SaysDistance s w (told s w)
unfolding answer reply sound keyed
distance_told s q w i b h =
    subst (SaysDistance s w) (sym (told_is s q w (reads_image s q i)))
    (says w (revision_of s w.column) (count q) h (ltb w.column q.k) (ltb w.row (rows q)) (eqb (length w.strip) q.b)
    (λ e. bytes_revision s q b w.column (true_ltb w.column q.k e)))

-- "and the degraded write"
pub distance_told_away : (s : List ℕ) (q : Params) (m : ℕ) (w : Write) → Pattern q m → read_of s ≡ Ok q → RevisionBytes s q → w.base < 2 ^ 32
    → SaysDistance s w (told_away m s w)
unfolding recounted
distance_told_away s q m w P i b h = subst (SaysDistance s w) (sym (told_alike q m w P s s (reads_image s q i) (agrees_refl s q m))) (distance_told s q w i b h)

-- ---- n writes later

-- an accepted image whose revisions are made of bytes
record Readable (q : Params) (s : List ℕ) : Type 0 where
  accepted : Image s q
  small : RevisionBytes s q

readable_revision : (q : Params) (s : List ℕ) → Readable q s → (i : ℕ) → i < q.k → revision_of s i < 2 ^ 32
readable_revision q s g = bytes_revision s q g.small

-- by any call that leaves readable images and renews the revision of column i where it accepts a write to it
module _ (q : Params) (i : ℕ) (hi : i < q.k) (tell : List ℕ → Write → Answer) (leave : List ℕ → Write → List ℕ)
    (keeps : (s : List ℕ) (w : Write) → Readable q s → Readable q (leave s w))
    (moves : (s : List ℕ) (w : Write) → Readable q s → w.base < 2 ^ 32
    → revision_of (leave s w) i ≡ choose (is_accepted (tell s w) && eqb w.column i) (renewed (revision_of s i)) (revision_of s i)) where
  kept_last : (es : List Entry) (s : List ℕ) → Readable q s → Readable q (image_last tell leave s es)
  kept_last = last_keeps tell leave (Readable q) keeps

  one_counted : (n : ℕ) (x : Logged Answer) (l : List (Logged Answer)) (b : Bool) → (choose b (renewed n) n + length l) % 2 ^ 32 ≡ (n + length (choose b (x ∷ l) l)) % 2 ^ 32
  unfolding renewed
  one_counted n x l true = omega arith
  one_counted n x l false = refl

  -- the revision counts the accepted writes
  all_counted : (es : List Entry) → Bases es → (s : List ℕ) → Readable q s
      → revision_of (image_last tell leave s es) i ≡ (revision_of s i + accepted_to i (image_log tell leave s es)) % 2 ^ 32
  unfolding image_log image_last keep
  all_counted [] none s g = omega (arith, readable_revision q s g i hi)
  all_counted (e ∷ es) (one_more _ h hs) s g =
      all_counted es hs (leave s e.write) (keeps s e.write g)
      ∙ ap (λ (n : ℕ). (n + accepted_to i (image_log tell leave (leave s e.write) es)) % 2 ^ 32) (moves s e.write g h)
      ∙ one_counted (revision_of s i) (record { entry = e; answer = tell s e.write })
      (keep (λ x. is_accepted x.answer && eqb x.entry.write.column i) (image_log tell leave (leave s e.write) es))
      (is_accepted (tell s e.write) && eqb e.write.column i)

  notes_since : (es : List Entry) → Bases es → (s : List ℕ) → Readable q s → let n = accepted_to i (image_log tell leave s es) in 1 ≤ n → n ≤ 2 ^ 31 - 1
      → judged (revision_of (image_last tell leave s es) i) (revision_of s i) ≡ Older n
  notes_since es hs s g l k =
      (older_exactly (revision_of (image_last tell leave s es) i) (revision_of s i)
      (readable_revision q (image_last tell leave s es) (kept_last es s g) i hi) (readable_revision q s g i hi) (accepted_to i (image_log tell leave s es))).1
      (record { some = l; most = k; renewals = all_counted es hs s g })

-- a sound write against a base that is n behind
answered_behind : (s : List ℕ) (q : Params) (i b n : ℕ) → Image s q → judged (revision_of s i) b ≡ Older n → (w : Write) → Sound q w → w.column ≡ i → w.base ≡ b → told s w ≡ notes_behind n
answered_behind s q i b n I o w h e f = told_sound q s w I h ∙ ap (aged (count q) w) (ap₂ (λ (c d : ℕ). judged (revision_of s c) d) e f ∙ o)

-- ---- by the write on whole images

module _ (q : Params) (s : List ℕ) (w : Write) (g : Readable q s) where
  good : Good s q s
  good = good_first s q g.accepted g.small

  whole_keeps : Readable q (left s w)
  whole_keeps = let h : Good s q (left s w) = stays s q s w good in record { accepted = h.accepted; small = h.small }

module _ (q : Params) (i : ℕ) (hi : i < q.k) (s : List ℕ) (w : Write) (g : Readable q s) (hb : w.base < 2 ^ 32) where
  base_current : accepts (rules q) (revision_of s w.column) w ≡ true → revision_of s w.column ≡ w.base
  unfolding accepts reply
  base_current e =
      let ok : sound (rules q) w ≡ true = accepts_sound (rules q) (revision_of s w.column) w e in
      let age : Age = judged (revision_of s w.column) w.base in
      let yes : is_accepted (aged (count q) w age) ≡ true = rw ok at e in
      (judged_current (revision_of s w.column) w.base (readable_revision q s g w.column (sound_column (rules q) w ok)) hb).0
      ((age_zero (count q) w age).0 (true_eqb (aged (count q) w age).refusal 0 yes))

  put_revision : accepts (rules q) (revision_of s w.column) w ≡ true
      → choose (eqb w.column i) (renewed w.base) (revision_of s i) ≡ choose (eqb w.column i) (renewed (revision_of s i)) (revision_of s i)
  put_revision ok = go (eqb w.column i) refl
    where
      go : (d : Bool) → eqb w.column i ≡ d → choose d (renewed w.base) (revision_of s i) ≡ choose d (renewed (revision_of s i)) (revision_of s i)
      go true e = ap renewed (sym (base_current ok) ∙ ap (revision_of s) (true_eqb w.column i e))
      go false e = refl

  after_revision : (after (rules q) (view q s) w).revision i
      ≡ choose (accepts (rules q) (revision_of s w.column) w && eqb w.column i) (renewed (revision_of s i)) (revision_of s i)
  unfolding after put keyed
  after_revision = go (accepts (rules q) (revision_of s w.column) w) refl
    where
      go : (b : Bool) → accepts (rules q) (revision_of s w.column) w ≡ b
          → (choose b (put (rules q) (view q s) w) (view q s)).revision i ≡ choose (b && eqb w.column i) (renewed (revision_of s i)) (revision_of s i)
      go true e = put_revision e
      go false e = refl

  whole_moves : revision_of (left s w) i ≡ choose (is_accepted (told s w) && eqb w.column i) (renewed (revision_of s i)) (revision_of s i)
  unfolding accepts answer keyed
  whole_moves =
      (steps s q s w (good q s w g)).revisions i 0 hi (omega (arith, g.accepted.admitted.p_low)) ∙ after_revision
      ∙ ap (λ (a : Answer). choose (is_accepted a && eqb w.column i) (renewed (revision_of s i)) (revision_of s i)) (sym (told_is s q w g.accepted))

-- "three notes behind": n writes to column i were accepted since its revision was the base, n from 1 to 2^31 - 1
pub three_notes_behind : (s : List ℕ) (q : Params) → read_of s ≡ Ok q → RevisionBytes s q → (es : List Entry) → Bases es → (i : ℕ) → i < q.k
    → let n = accepted_to i (answers s es) in 1 ≤ n → n ≤ 2 ^ 31 - 1 → ThreeNotesBehind told (last_image s es) q i (revision_of s i) n
three_notes_behind s q I b es hs i hi l k =
    let g : Readable q s = record { accepted = reads_image s q I; small = b } in
    let z : Image (last_image s es) q = (kept_last q i hi told left (whole_keeps q) (whole_moves q i hi) es s g).accepted in
    let o = notes_since q i hi told left (whole_keeps q) (whole_moves q i hi) es hs s g l k in
    record { older = ap age_number o; by = ap age_distance o; answered = answered_behind (last_image s es) q i (revision_of s i) (accepted_to i (answers s es)) z o }

-- ---- by the write while columns are lost, which ends as on the image that rebuild gives

module _ (q : Params) (m : ℕ) (P : Pattern q m) (s : List ℕ) (w : Write) (g : Readable q s) where
  z : List ℕ
  z = rebuilt s q m

  z_agrees : AgreesOutside z s q m
  unfolding z
  z_agrees = agrees_sym s z q m (rebuilt_keeps s q m g.accepted)

  z_readable : Readable q z
  unfolding z
  z_readable = record { accepted = rebuilt_image s q m g.accepted; small = small_z z s q m z_agrees g.small }

  left_z : AgreesOutside (left z w) (left_away m s w) q m
  unfolding z
  left_z = as_if_rebuilt s q m P (image_reads s q g.accepted) w

  away_keeps : Readable q (left_away m s w)
  away_keeps =
      let h : Readable q (left z w) = whole_keeps q z w z_readable in
      record {
        accepted = agrees_image (left z w) (left_away m s w) q m left_z h.accepted;
        small = small_z (left_away m s w) (left z w) q m (agrees_sym (left z w) (left_away m s w) q m left_z) h.small;
      }

  accepted_alike : is_accepted (told_away m s w) ≡ is_accepted (told z w)
  unfolding recounted
  accepted_alike = ap is_accepted (told_alike q m w P z s z_readable.accepted z_agrees)

away_moves : (q : Params) (m : ℕ) (P : Pattern q m) (i : ℕ) → i < q.k → (s : List ℕ) (w : Write) (g : Readable q s) → w.base < 2 ^ 32
    → revision_of (left_away m s w) i ≡ choose (is_accepted (told_away m s w) && eqb w.column i) (renewed (revision_of s i)) (revision_of s i)
unfolding z
away_moves q m P i hi s w g hb =
    revisions_alike (left (rebuilt s q m) w) (left_away m s w) q m (left_z q m P s w g) i hi ∙ whole_moves q i hi (rebuilt s q m) w (z_readable q m P s w g) hb
    ∙ ap₂ (λ (b : Bool) (n : ℕ). choose (b && eqb w.column i) (renewed n) n) (sym (accepted_alike q m P s w g))
    (sym (revisions_alike (rebuilt s q m) s q m (z_agrees q m P s w g) i hi))

-- the same, with one sound pattern for the whole list
pub three_notes_behind_away : (s : List ℕ) (q : Params) (m : ℕ) → Pattern q m → read_of s ≡ Ok q → RevisionBytes s q → (es : List Entry) → Bases es → (i : ℕ) → i < q.k
    → let n = accepted_to i (answers_away m s es) in 1 ≤ n → n ≤ 2 ^ 31 - 1 → ThreeNotesBehind (told_away m) (last_away m s es) q i (revision_of s i) n
unfolding recounted
three_notes_behind_away s q m P I b es hs i hi l k =
    let g : Readable q s = record { accepted = reads_image s q I; small = b } in
    let z : Image (last_away m s es) q = (kept_last q i hi (told_away m) (left_away m) (away_keeps q m P) (away_moves q m P i hi) es s g).accepted in
    let o = notes_since q i hi (told_away m) (left_away m) (away_keeps q m P) (away_moves q m P i hi) es hs s g l k in
    record {
      older = ap age_number o;
      by = ap age_distance o;
      answered = λ w h e f.
          told_alike q m w P (last_away m s es) (last_away m s es) z (agrees_refl (last_away m s es) q m)
          ∙ ap (recounted q m w) (answered_behind (last_away m s es) q i (revision_of s i) (accepted_to i (answers_away m s es)) z o w h e f);
    }
