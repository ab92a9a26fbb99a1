-- Request 4: what import gives of exported files, and what rebuild makes of that.
-- Assumes nothing.
use Prim.Native.Nat.{ℕ, ◌+◌, ◌*◌, ◌/◌, ◌%◌, ◌^◌, ◌<◌, ◌≤◌}
use mathlib.Core.Bool.{Bool, true, false}
use mathlib.Core.List.{List}
use mathlib.Core.Path.{◌≡◌, refl, sym, ap, ◌∙◌}
use native.Mathlib.Omega.{arith}
use lib.Dec.{eqb, ltb}
use lib.ListN.{length, get_or}
use borrow.Author.Tests.{lt-ltb, le-leb, eq-eqb}
use Rattle.std.specs.Prelude.{Result, Ok, Err}
use Rattle.laws.proofs.Bit.{pack_lt, bit_pack}
use Rattle.laws.proofs.Choose.{true_T}
use Rattle.laws.proofs.Part.{get_or_part}
use Rattle.laws.proofs.Rows.{row_in}
use Rattle.laws.proofs.Tab.{get_or_tab}
use Rattle.laws.specs.Bit.{weight}
use Rattle.laws.specs.Choose.{choose}
use Rattle.laws.specs.Left.{Left}
use Rattle.refusal.specs.declared.Refusal.TheVariants.{Column, Room}
use Rattle.stripe.proofs.Images.{image_of_image, length_image_of, of_opening, of_revisions, of_third, of_columns, of_fourth, of_parities, length_columns_in, length_parities_in}
use Rattle.stripe.specs.Layout.{rows, column_length, data_from, data_byte, strip_at, parity_count_at, parity_from, parity_byte, parity_strip_at, image_length}
use Rattle.stripe.specs.Reading.{Image, read_of}
use Rattle.stripe.specs.Sections.{columns_in, parities_in}
use Rattle.stripe.specs.declared.Params.{Params}
use Rattle.block.proofs.Touching.{due_agree}
use Rattle.block.specs.Parity.{Right}
use Rattle.pattern.specs.Pattern.{pattern_fits, few_lost, is_lost}
use Rattle.rebuild.specs.Agrees.{AgreesOutside}
use Rattle.rebuild.specs.Answer.{rebuild_of}
use Rattle.column_file.specs.File.{file_length, file_of}
use Rattle.file_by_file.specs.Files.{first_params, met_from}
use Rattle.columns.specs.Export.{export_sound, export_read, export_of, file_length_sound, file_length_read, file_length_of}
use Rattle.columns.specs.Import.{import_sound, import_met, import_of, files_length_met, files_length_of}
use Rattle.columns.proofs.Round.{export_done, import_exported, import_all, only_image, length_only_revisions, length_only_columns, length_only_parities}
use Rattle.filling.proofs.Spots.{Kind, heads, revisions, third, columns, fourth, parities, kind, row_is}
use Rattle.columns.specs.Only.{among, only_revisions, only_columns, only_parities, only, all_strips, others}
use Rattle.promises.proofs.Accepted.{reads_image, image_reads}
use Rattle.promises.proofs.Demand2.{comes, demand_2}
use Rattle.promises.specs.Columns.{Fills, ColumnFiles}
use Rattle.promises.specs.Demand2.{Pattern, ComesTo}
use Rattle.refusal.specs.declared.Refusal.{Refusal}
use Rattle.refusal.specs.Number.{answer_number, answer_value}

-- ---- every strip of an image, and the revisions of some columns

module _ (s : List ℕ) (q : Params) (ns : List ℕ) (i : Image s q) where
  abbrev C : ℕ
  C = column_length q

  abbrev Z : List ℕ
  Z = all_strips s q ns

  lr : length (only_revisions s q ns) ≡ 4 * q.k
  lr = length_only_revisions s q ns

  lc : length (columns_in s q) ≡ q.k * C
  lc = length_columns_in s q i.len

  lp : length (parities_in s q) ≡ q.r * C
  lp = length_parities_in s q i.len

  strips_image : Image Z q
  strips_image = image_of_image q (only_revisions s q ns) (columns_in s q) (parities_in s q) lr lc lp i.admitted

  -- byte x of strip t of column i is byte o of all columns
  data_offset : (c t x : ℕ) → c < q.k → t < rows q → x < q.b → c * C + (t * q.b + x) < q.k * C
  data_offset c t x h k l = omega (arith, row_in c q.k C h, row_in t (rows q) q.b k)

  strips_data : (c t x : ℕ) → c < q.k → t < rows q → x < q.b → data_byte Z q c t x ≡ data_byte s q c t x
  strips_data c t x h k l =
      let o : ℕ = c * C + (t * q.b + x) in
      let b : o < q.k * C = data_offset c t x h k l in
      let y : strip_at q c t + x ≡ data_from q + o = omega arith in
      ap (λ (m : ℕ). get_or Z m 0) y ∙ of_columns q (only_revisions s q ns) (columns_in s q) (parities_in s q) lr lc lp o b ∙ get_or_part s (data_from q) (q.k * C) o b ∙ ap (λ (m : ℕ). get_or s m 0) (sym y)

  parity_offset : (j t x : ℕ) → j < q.r → t < rows q → x < q.b → j * C + (t * q.b + x) < q.r * C
  parity_offset j t x h k l = omega (arith, row_in j q.r C h, row_in t (rows q) q.b k)

  strips_parity : (j t x : ℕ) → j < q.r → t < rows q → x < q.b → parity_byte Z q j t x ≡ parity_byte s q j t x
  strips_parity j t x h k l =
      let o : ℕ = j * C + (t * q.b + x) in
      let b : o < q.r * C = parity_offset j t x h k l in
      let y : parity_strip_at q j t + x ≡ parity_from q + o = omega arith in
      ap (λ (m : ℕ). get_or Z m 0) y ∙ of_parities q (only_revisions s q ns) (columns_in s q) (parities_in s q) lr lc lp o b ∙ get_or_part s (parity_from q) (q.r * C) o b ∙ ap (λ (m : ℕ). get_or s m 0) (sym y)

  strips_right : Right s q → Right Z q
  strips_right R = record {
    parity_due = λ j t x h k l.
        strips_parity j t x h k l ∙ R.parity_due j t x h k l
        ∙ due_agree q (data_byte s q) (data_byte Z q) j t x (λ c u g m. sym (strips_data c u x g m l));
  }

  -- ---- what import gave agrees with it outside the absent columns

  oc : length (only_columns s q ns) ≡ q.k * C
  oc = length_only_columns s q ns

  op : length (only_parities s q ns) ≡ q.r * C
  op = length_only_parities s q ns

  abbrev O : List ℕ
  O = only s q ns

  present : (n : ℕ) → n < q.k + q.r → is_lost (others q ns) n ≡ false → among n ns ≡ true
  unfolding others
  present n h e = go (among n ns) (sym (ap (λ (x : ℕ). eqb x 1) (bit_pack (q.k + q.r) (λ m. choose (among m ns) 0 1) n h)) ∙ e)
    where
      go : (b : Bool) → eqb (choose b 0 1 % 2) 1 ≡ false → b ≡ true
      go true z = refl
      go false z = let y : ◌≡◌ {A = ℕ} 0 1 = cc in absurd (omega arith)

  only_data : (c t x : ℕ) → c < q.k → t < rows q → x < q.b → among c ns ≡ true → data_byte O q c t x ≡ data_byte s q c t x
  unfolding only_columns
  only_data c t x h k l e =
      let o : ℕ = c * C + (t * q.b + x) in
      let b : o < q.k * C = data_offset c t x h k l in
      let y : strip_at q c t + x ≡ data_from q + o = omega arith in
      let z : o / C ≡ c = row_is c o C (omega arith) (omega (arith, row_in t (rows q) q.b k)) in
      ap (λ (m : ℕ). get_or O m 0) y ∙ of_columns q (only_revisions s q ns) (only_columns s q ns) (only_parities s q ns) lr oc op o b
      ∙ get_or_tab (q.k * C) (λ o. choose (among (o / C) ns) (get_or s (data_from q + o) 0) 0) o b
      ∙ ap (λ (v : Bool). choose v (get_or s (data_from q + o) 0) 0) (ap (λ (m : ℕ). among m ns) z ∙ e) ∙ ap (λ (m : ℕ). get_or s m 0) (sym y)

  only_parity : (j t x : ℕ) → j < q.r → t < rows q → x < q.b → among (q.k + j) ns ≡ true → parity_byte O q j t x ≡ parity_byte s q j t x
  unfolding only_parities
  only_parity j t x h k l e =
      let o : ℕ = j * C + (t * q.b + x) in
      let b : o < q.r * C = parity_offset j t x h k l in
      let y : parity_strip_at q j t + x ≡ parity_from q + o = omega arith in
      let z : o / C ≡ j = row_is j o C (omega arith) (omega (arith, row_in t (rows q) q.b k)) in
      ap (λ (m : ℕ). get_or O m 0) y ∙ of_parities q (only_revisions s q ns) (only_columns s q ns) (only_parities s q ns) lr oc op o b
      ∙ get_or_tab (q.r * C) (λ o. choose (among (q.k + o / C) ns) (get_or s (parity_from q + o) 0) 0) o b
      ∙ ap (λ (v : Bool). choose v (get_or s (parity_from q + o) 0) 0) (ap (λ (m : ℕ). among (q.k + m) ns) z ∙ e) ∙ ap (λ (m : ℕ). get_or s m 0) (sym y)

  -- everything but data and parity
  counts_same : (o : ℕ) → Kind q o → (data_from q ≤ o → o < parity_count_at q → ⊥) → o < parity_from q → get_or O o 0 ≡ get_or Z o 0
  counts_same o (heads h) d p = of_opening q _ _ _ lr oc op o h ∙ sym (of_opening q _ _ _ lr lc lp o h)
  counts_same o (revisions x h e) d p = rw e (of_revisions q _ _ _ lr oc op x h ∙ sym (of_revisions q _ _ _ lr lc lp x h))
  counts_same o (third x h e) d p = rw e (of_third q _ _ _ lr oc op x h ∙ sym (of_third q _ _ _ lr lc lp x h))
  counts_same o (columns x h e) d p = absurd (d (omega arith) (omega arith))
  counts_same o (fourth x h e) d p = rw e (of_fourth q _ _ _ lr oc op x h ∙ sym (of_fourth q _ _ _ lr lc lp x h))
  counts_same o (parities x h e) d p = absurd (omega arith)

  agrees : AgreesOutside Z O q (others q ns)
  agrees = record {
    len = length_image_of q _ _ _ lr oc op ∙ sym (length_image_of q _ _ _ lr lc lp);
    front = λ o h. counts_same o (kind q o (omega arith)) (λ a b. omega arith) (omega arith);
    count = λ o h k. counts_same o (kind q o (omega arith)) (λ a b. omega arith) k;
    data_there = λ c t x h k l e. only_data c t x h k l (present c (omega arith) e) ∙ sym (strips_data c t x h k l);
    parity_there = λ j t x h k l e. only_parity j t x h k l (present (q.k + j) (omega arith) e) ∙ sym (strips_parity j t x h k l);
  }

  few_others : weight (others q ns) (q.k + q.r) ≤ q.r → Pattern q (others q ns)
  unfolding pattern_fits few_lost others
  few_others w = record {
    fits = true_T _ (lt-ltb (others q ns) (2 ^ (q.k + q.r)) (pack_lt (q.k + q.r) (λ n. choose (among n ns) 0 1)));
    few = true_T _ (le-leb (weight (others q ns) (q.k + q.r)) q.r w);
  }

  rebuild_strips : Right s q → weight (others q ns) (q.k + q.r) ≤ q.r → ComesTo (rebuild_of O (others q ns)) 0 Z
  rebuild_strips R w = demand_2.rebuilt Z O q (others q ns) (image_reads Z q strips_image) (strips_right R) (few_others w) agrees

-- ---- the lengths to lend

module _ (s : List ℕ) (n m : ℕ) (t : List ℕ) (l : length t ≡ m) where
  room_for_file : file_length_of s n ≡ Ok m → answer_number (export_of s n t).answer ≡ 0
  unfolding file_length_of export_of file_length_read export_read file_length_sound export_sound
  room_for_file e = go (read_of s) e
    where
      told : (q : Params) → Bool → Left (Result (Unit {0}) Refusal)
      told q b =
          choose b (choose (eqb (length t) (file_length q n)) (record { answer = Ok tt; image = file_of s q n }) (record { answer = Err Room; image = t }))
          (record { answer = Err Column; image = t })

      at_column : (q : Params) (b : Bool) → choose b (Ok (file_length q n)) (Err Column) ≡ Ok m → answer_number (told q b).answer ≡ 0
      at_column q true f = let z : m ≡ file_length q n = sym (ap answer_value f) in rw (eq-eqb (length t) (file_length q n) (l ∙ z)) refl
      at_column q false f = let y : ◌≡◌ {A = ℕ} 0 1 = cc in absurd (omega arith)

      go : (w : Result Params Refusal) → file_length_read n w ≡ Ok m → answer_number (export_read s n t w).answer ≡ 0
      go (Ok q) f = at_column q (ltb n (q.k + q.r)) f
      go (Err x) f = let y : ◌≡◌ {A = ℕ} 0 1 = cc in absurd (omega arith)

room_for_image : (f : List ℕ) (m : ℕ) (t : List ℕ) → files_length_of f ≡ Ok m → length t ≡ m → answer_number (import_of f t).answer ≡ 0
unfolding files_length_of import_of files_length_met import_met import_sound
room_for_image f m t e l = go (met_from f 0 0) e
  where
    go : (w : Result ℕ Refusal) → files_length_met f w ≡ Ok m → answer_number (import_met f t w).answer ≡ 0
    go (Ok k) z = let y : m ≡ image_length (first_params f) = sym (ap answer_value z) in rw (eq-eqb (length t) (image_length (first_params f)) (l ∙ y)) refl
    go (Err x) z = let y : ◌≡◌ {A = ℕ} 0 1 = cc in absurd (omega arith)

-- ---- the theorem

fills : {p : ℕ} {z : List ℕ} (l : Left (Result ℕ Refusal)) → l ≡ record { answer = Ok p; image = z } → Fills l p z
fills l e = record {
  answered = ap (λ (x : Left (Result ℕ Refusal)). answer_number x.answer) e;
  absent = ap (λ (x : Left (Result ℕ Refusal)). answer_value x.answer) e;
  left = ap (λ (x : Left (Result ℕ Refusal)). x.image) e;
}

pub column_files : ColumnFiles
column_files = record {
  exports = λ s q n t reads h l. comes (Ok tt) (export_done s q (reads_image s q reads) n t h l);
  imports = λ s q n ns t reads L l. fills _ (import_exported s q (reads_image s q reads) n ns t L l);
  reads = λ s q ns reads. image_reads (only s q ns) q (only_image s q ns (reads_image s q reads).admitted);
  gives_back = λ s q n ns t reads small L all l. fills _ (import_all s q (reads_image s q reads) small n ns t L all l);
  rebuilds = λ s q ns reads R w. rebuild_strips s q ns (reads_image s q reads) R w;
  file_fits = λ s n m t e l. room_for_file s n m t l e;
  image_fits = room_for_image;
}
