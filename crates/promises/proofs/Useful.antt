-- `write::write` meets the rules of document 01 that the useless programs break; and a write of the same bytes.
-- Assumes nothing.
use Prim.Native.Nat.{ℕ, ◌*◌, ◌<◌, ◌≤◌}
use mathlib.Core.Bool.{true}
use mathlib.Core.List.{List}
use mathlib.Core.Path.{◌≡◌, sym, ap, subst, ◌∙◌}
use native.Mathlib.Decide.{ℕ_discrete}
use lib.ListN.{get_or}
use Rattle.std.specs.Prelude.{Ok}
use Rattle.laws.proofs.Sum.{pick_zero}
use Rattle.laws.proofs.Xor.{⊕_self, ⊕_zero}
use Rattle.laws.specs.Sum.{pick}
use Rattle.laws.specs.Xor.{◌⊕◌}
use Rattle.stripe.specs.Layout.{rows, revision_of, data_byte, parity_byte}
use Rattle.stripe.specs.Reading.{Image, read_of}
use Rattle.stripe.specs.declared.Params.{Params}
use Rattle.block.proofs.Touching.{due_agree, count_least, count_most}
use Rattle.block.specs.Parity.{due, Right}
use Rattle.block.specs.Touches.{count, touches}
use Rattle.revision.specs.Revision.{judged, renewed}
use Rattle.store.specs.Kinds.{keyed}
use Rattle.store.specs.Store.{Write, Entry, accepts, answer}
use Rattle.write.proofs.After.{written_strip_here, written_strip_elsewhere, written_parity, written_revision_here}
use Rattle.write.specs.Written.{written, difference}
use Rattle.present.proofs.Counts.{present_least, present_most}
use Rattle.present.specs.Present.{present_count, present_parities}
use Rattle.away.specs.Away.{away_written}
use Rattle.promises.proofs.Accepted.{reads_image}
use Rattle.promises.proofs.Away.{agrees_refl, told_alike, left_away_is}
use Rattle.promises.proofs.Behind.{distance_told}
use Rattle.promises.proofs.Changed.{count_changed, away_changed}
use Rattle.promises.proofs.Demand3.{refused_exactly, age_zero, told_sound, demand_3_of}
use Rattle.promises.proofs.Writes.{rules, aged, told_is, left_is}
use Rattle.promises.specs.Away.{told_away, left_away, recounted}
use Rattle.promises.specs.Changed.{strips_changed, WriteCounted, AwayCounted, WritesSame, CountedAlike}
use Rattle.promises.specs.Demand2.{Pattern}
use Rattle.promises.specs.Demand3.{Answer, answer_of, is_accepted, told, left, last_image, RevisionBytes, Current}
use Rattle.promises.specs.Useful.{last_byte, Useful}

module _ (s : List ℕ) (q : Params) (w : Write) (c : Current s q w) where
  image : Image s q
  image = reads_image s q c.reads

  -- how it is answered, and that it is accepted
  told_accepted : told s w ≡ answer_of (Ok (record { revision = renewed w.base; count = count q w.column w.row }))
  told_accepted =
      let g = judged (revision_of s w.column) w.base in
      let is : told s w ≡ aged (count q) w g = told_sound q s w image c.sound in
      let taken : (told s w).refusal ≡ 0 = (refused_exactly q s w image c.bytes c.sound).1 c.base in
      is ∙ rw ((age_zero (count q) w g).0 (sym (ap (λ (a : Answer). a.refusal) is) ∙ taken))

  accepts_it : accepts (rules q) (revision_of s w.column) w ≡ true
  unfolding accepts answer keyed
  accepts_it = ap is_accepted (sym (told_is s q w image) ∙ told_accepted)

  left_written : left s w ≡ written s q w.column w.row w.base w.strip
  left_written = left_is s q w image ∙ rw accepts_it

  pub write_counted : WriteCounted s q w
  write_counted = record {
    accepted = ap (λ (a : Answer). a.refusal) told_accepted;
    revised = ap (λ (a : Answer). a.revision) told_accepted;
    counted = number;
    least = subst (λ (n : ℕ). q.r ≤ n) (sym number) (count_least q w.column w.row image.admitted c.sound.column_in c.sound.row_in);
    most = subst (λ (n : ℕ). n ≤ q.r * rows q) (sym number) (count_most q w.column w.row);
    changed = λ x h n.
        ap (λ (l : List ℕ). strips_changed s l q) left_written
        ∙ count_changed s q w.column w.row w.base w.strip image c.sound.column_in c.sound.row_in c.sound.width_due x h n ∙ sym number;
  }
    where
      number : (told s w).count ≡ count q w.column w.row
      number = ap (λ (a : Answer). a.count) told_accepted

  -- the same while columns are lost
  module _ (m : ℕ) (P : Pattern q m) where
    away_accepted : told_away m s w ≡ answer_of (Ok (record { revision = renewed w.base; count = present_count q m w.column w.row }))
    unfolding recounted
    away_accepted = told_alike q m w P s s image (agrees_refl s q m) ∙ ap (recounted q m w) told_accepted

    away_left : left_away m s w ≡ away_written s q m w.column w.row w.base w.strip
    away_left = left_away_is q m w P s image ∙ rw accepts_it

    pub away_counted : AwayCounted s q m w
    away_counted = record {
      accepted = ap (λ (a : Answer). a.refusal) away_accepted;
      revised = ap (λ (a : Answer). a.revision) away_accepted;
      counted = number;
      least = subst (λ (n : ℕ). present_parities q m ≤ n) (sym number) (present_least q m w.column w.row image.admitted c.sound.column_in c.sound.row_in);
      most = subst (λ (n : ℕ). n ≤ present_parities q m * rows q) (sym number) (present_most q m w.column w.row image.admitted c.sound.column_in c.sound.row_in);
      changed = λ x h n.
          ap (λ (l : List ℕ). strips_changed s l q) away_left
          ∙ away_changed s q m w.column w.row w.base w.strip image c.sound.column_in c.sound.row_in c.sound.width_due x h n ∙ sym number;
    }
      where
        number : (told_away m s w).count ≡ present_count q m w.column w.row
        number = ap (λ (a : Answer). a.count) away_accepted

  new_byte : (x : ℕ) → x < q.b → data_byte (left s w) q w.column w.row x ≡ get_or w.strip x 0
  new_byte x h =
      ap (λ (l : List ℕ). data_byte l q w.column w.row x) left_written
      ∙ written_strip_here s q w.column w.row w.base w.strip image c.sound.column_in c.sound.row_in c.sound.width_due x h

  new_revision : revision_of (left s w) w.column ≡ renewed w.base
  new_revision =
      ap (λ (l : List ℕ). revision_of l w.column) left_written
      ∙ written_revision_here s q w.column w.row w.base w.strip image c.sound.column_in c.sound.row_in c.sound.width_due

  -- "A write of the same bytes is accepted and counted alike."
  module _ (same : WritesSame s q w) where
    data_same : (i t x : ℕ) → i < q.k → t < rows q → x < q.b → data_byte (left s w) q i t x ≡ data_byte s q i t x
    data_same i t x hi ht hx = go (ℕ_discrete w.column i) (ℕ_discrete w.row t)
      where
        elsewhere : (w.column ≡ i → w.row ≡ t → ⊥) → data_byte (left s w) q i t x ≡ data_byte s q i t x
        elsewhere n =
            ap (λ (l : List ℕ). data_byte l q i t x) left_written
            ∙ written_strip_elsewhere s q w.column w.row w.base w.strip image c.sound.column_in c.sound.row_in c.sound.width_due i t x hi ht hx n

        go : Dec (w.column ≡ i) → Dec (w.row ≡ t) → data_byte (left s w) q i t x ≡ data_byte s q i t x
        go (yes e) (yes f) = rw (sym e, sym f) (new_byte x hx ∙ same x hx)
        go (yes e) (no f) = elsewhere (λ _. f)
        go (no e) d = elsewhere (λ z. absurd (e z))

    no_difference : (x : ℕ) → x < q.b → difference s q w.column w.row w.strip x ≡ 0
    unfolding difference
    no_difference x h = ap (λ (y : ℕ). data_byte s q w.column w.row x ⊕ y) (same x h) ∙ ⊕_self (data_byte s q w.column w.row x)

    parity_same : (j t x : ℕ) → j < q.r → t < rows q → x < q.b → parity_byte (left s w) q j t x ≡ parity_byte s q j t x
    parity_same j t x hj ht hx =
        ap (λ (l : List ℕ). parity_byte l q j t x) left_written
        ∙ written_parity s q w.column w.row w.base w.strip image c.sound.column_in c.sound.row_in c.sound.width_due j t x hj ht hx
        ∙ ap (λ (y : ℕ). parity_byte s q j t x ⊕ y) (ap (pick (touches q w.column w.row j t)) (no_difference x hx) ∙ pick_zero (touches q w.column w.row j t))
        ∙ ⊕_zero (parity_byte s q j t x)

    pub same_bytes : CountedAlike s q w
    same_bytes = record { alike = write_counted; data_stays = data_same; parity_stays = parity_same }

last_parity : (s : List ℕ) (q : Params) (es : List Entry) → read_of s ≡ Ok q → RevisionBytes s q → Right s q
    → (j t x : ℕ) → j < q.r → t < rows q → x < q.b → parity_byte (last_image s es) q j t x ≡ due q (last_byte told left s q es) j t x
last_parity s q es reads b r j t x hj ht hx =
    ((demand_3_of s q reads b es).right_stays r).parity_due j t x hj ht hx
    ∙ due_agree q (data_byte (last_image s es) q) (last_byte told left s q es) j t x (λ i u hi hu. (demand_3_of s q reads b es).last_strips i u x hi hu hx)

-- the rules hold of the write
pub write_useful : Useful told left
write_useful = record {
  refuses_exactly = λ s q w reads. refused_exactly q s w (reads_image s q reads);
  puts_new_bytes = new_byte;
  sets_revision = new_revision;
  holds_last_writes = λ s q es reads b. (demand_3_of s q reads b es).last_strips;
  holds_last_parity = last_parity;
  counts_pairs = λ s q w c. (write_counted s q w c).counted;
  tells_distance = distance_told;
}
