-- Importing the exported files of columns gives the image with exactly those columns; of all columns, the image.
-- Assumes nothing.
use Prim.Native.Nat.{ℕ, ◌+◌, ◌-◌, ◌*◌, ◌/◌, ◌<◌, ◌≤◌}
use mathlib.Core.Bool.{Bool, true, false}
use mathlib.Core.List.{List, [], ◌∷◌}
use mathlib.Core.Path.{◌≡◌, refl, sym, ap, ap₂, ◌∙◌}
use native.Mathlib.Omega.{arith}
use lib.ListN.{length, get_or, length-append}
use lib.Seq.{ext_get_or}
use borrow.Author.Tests.{eq-eqb, lt-ltb}
use Rattle.std.specs.Prelude.{Ok}
use Rattle.laws.proofs.Bit.{pack_ext, pack_zero}
use Rattle.laws.proofs.Part.{length_part, get_or_part}
use Rattle.laws.proofs.Tab.{length_tab, get_or_tab, is_tab}
use Rattle.laws.specs.Choose.{choose}
use Rattle.laws.specs.Part.{part, tab}
use Rattle.stripe.proofs.Frame.{image_read}
use Rattle.stripe.proofs.Images.{length_image_of, of_opening, of_revisions, of_third, of_columns, of_fourth, of_parities, image_of_image}
use Rattle.stripe.specs.Layout.{column_length, revision_at, data_from, data_count_at, parity_count_at, parity_from, image_length}
use Rattle.stripe.specs.Params.{Admitted}
use Rattle.stripe.specs.Reading.{Image}
use Rattle.stripe.specs.declared.Params.{Params}
use Rattle.stripe.specs.Sections.{image_of}
use Rattle.column_file.specs.File.{file_length, file_of}
use Rattle.file_by_file.specs.Files.{walk}
use Rattle.columns.specs.Export.{export_sound, export_read, export_of}
use Rattle.filling.specs.Filled.{blank, fill}
use Rattle.columns.specs.Import.{import_sound, import_met, import_of}
use Rattle.columns.specs.Only.{among, Listed, more, AllListed, exported, only_revisions, only_columns, only_parities, only, others}
use Rattle.columns.proofs.Files.{First, first_file, first_is}
use Rattle.column_file.proofs.Columns.{length_file}
use Rattle.columns.proofs.Marks.{marked, absent_others}
use Rattle.columns.proofs.Placing.{length_placed, placed_inner, placed_outer}
use Rattle.columns.proofs.Shape.{image_is}
use Rattle.filling.proofs.Bytes.{Of}
use Rattle.filling.proofs.Spots.{Kind, heads, revisions, third, columns, fourth, parities, kind, head_of, third_of, fourth_of, revision_byte_of, revision_only, data_of, data_only, parity_of, parity_only, row_below}
use Rattle.columns.proofs.Walked.{placed, walked, filled}
use Rattle.laws.proofs.Bit.{bit_zero}

-- ---- the image: columns put into the blank one

module _ (s : List ℕ) (q : Params) (ns : List ℕ) where
  abbrev C : ℕ
  C = column_length q

  abbrev revs : ℕ → ℕ
  revs o = choose (among (o / 4) ns) (get_or s (revision_at 0 + o) 0) 0

  abbrev cols : ℕ → ℕ
  cols o = choose (among (o / C) ns) (get_or s (data_from q + o) 0) 0

  abbrev pars : ℕ → ℕ
  pars o = choose (among (q.k + o / C) ns) (get_or s (parity_from q + o) 0) 0

  pub length_only_revisions : length (only_revisions s q ns) ≡ 4 * q.k
  unfolding only_revisions
  length_only_revisions = length_tab (4 * q.k) revs

  pub length_only_columns : length (only_columns s q ns) ≡ q.k * C
  unfolding only_columns
  length_only_columns = length_tab (q.k * C) cols

  pub length_only_parities : length (only_parities s q ns) ≡ q.r * C
  unfolding only_parities
  length_only_parities = length_tab (q.r * C) pars

  length_only : length (only s q ns) ≡ image_length q
  length_only = length_image_of q _ _ _ length_only_revisions length_only_columns length_only_parities

  -- reading accepts it
  pub only_image : Admitted q → Image (only s q ns) q
  only_image = image_of_image q _ _ _ length_only_revisions length_only_columns length_only_parities

  length_blank : length (blank q) ≡ image_length q
  unfolding blank
  length_blank = length_image_of q _ _ _ (length_tab (4 * q.k) (λ o. 0)) (length_tab (q.k * C) (λ o. 0)) (length_tab (q.r * C) (λ o. 0))

  module _ (im : Image s q) (L : Listed q ns) where
    t : List ℕ
    t = placed s q ns (blank q)

    lb : length (blank q) ≡ length s
    lb = length_blank ∙ sym im.len

    -- a byte that column n alone has
    chosen : (n o : ℕ) → Of q n o → ((m : ℕ) → Of q m o → m ≡ n) → get_or (blank q) o 0 ≡ 0 → (b : Bool) → among n ns ≡ b → get_or t o 0 ≡ choose b (get_or s o 0) 0
    unfolding t
    chosen n o f u z true e = placed_inner s q im ns (blank q) o n L lb e f
    chosen n o f u z false e =
        placed_outer s q im ns (blank q) o L lb (λ m g h. let y : true ≡ false = sym g ∙ ap (λ (x : ℕ). among x ns) (u m h) ∙ e in let w : ◌≡◌ {A = ℕ} 0 1 = cc in absurd (omega arith)) ∙ z

    kept : (o : ℕ) → ((m : ℕ) → Of q m o → ⊥) → get_or t o 0 ≡ get_or (blank q) o 0
    unfolding t
    kept o f = placed_outer s q im ns (blank q) o L lb (λ m g h. f m h)

    lr : length (only_revisions s q ns) ≡ 4 * q.k
    lr = length_only_revisions

    lc : length (only_columns s q ns) ≡ q.k * C
    lc = length_only_columns

    lp : length (only_parities s q ns) ≡ q.r * C
    lp = length_only_parities

    zr : length (tab (4 * q.k) (λ o. 0)) ≡ 4 * q.k
    zr = length_tab (4 * q.k) (λ o. 0)

    zc : length (tab (q.k * C) (λ o. 0)) ≡ q.k * C
    zc = length_tab (q.k * C) (λ o. 0)

    zp : length (tab (q.r * C) (λ o. 0)) ≡ q.r * C
    zp = length_tab (q.r * C) (λ o. 0)

    same : (o : ℕ) → Kind q o → get_or t o 0 ≡ get_or (only s q ns) o 0
    unfolding only_revisions only_columns only_parities blank
    same o (heads h) =
        kept o (head_of q o h) ∙ of_opening q _ _ _ zr zc zp o h ∙ sym (of_opening q _ _ _ lr lc lp o h)
    same o (revisions x h e) =
        rw e (chosen (x / 4) (revision_at 0 + x) (revision_byte_of q x h) (revision_only q x h)
        (of_revisions q _ _ _ zr zc zp x h ∙ get_or_tab (4 * q.k) (λ o. 0) x h) (among (x / 4) ns) refl
        ∙ sym (of_revisions q _ _ _ lr lc lp x h ∙ get_or_tab (4 * q.k) revs x h))
    same o (third x h e) =
        rw e (kept (data_count_at q + x) (third_of q x h) ∙ of_third q _ _ _ zr zc zp x h ∙ sym (of_third q _ _ _ lr lc lp x h))
    same o (columns x h e) =
        rw e (chosen (x / C) (data_from q + x) (data_of q x h) (data_only q x h)
        (of_columns q _ _ _ zr zc zp x h ∙ get_or_tab (q.k * C) (λ o. 0) x h) (among (x / C) ns) refl
        ∙ sym (of_columns q _ _ _ lr lc lp x h ∙ get_or_tab (q.k * C) cols x h))
    same o (fourth x h e) =
        rw e (kept (parity_count_at q + x) (fourth_of q x h) ∙ of_fourth q _ _ _ zr zc zp x h ∙ sym (of_fourth q _ _ _ lr lc lp x h))
    same o (parities x h e) =
        rw e (chosen (q.k + x / C) (parity_from q + x) (parity_of q x h) (parity_only q x h)
        (of_parities q _ _ _ zr zc zp x h ∙ get_or_tab (q.r * C) (λ o. 0) x h) (among (q.k + x / C) ns) refl
        ∙ sym (of_parities q _ _ _ lr lc lp x h ∙ get_or_tab (q.r * C) pars x h))

    pub placed_only : placed s q ns (blank q) ≡ only s q ns
    unfolding t
    placed_only =
        let lt : length (placed s q ns (blank q)) ≡ image_length q = length_placed s q im ns (blank q) L lb ∙ im.len in
        ext_get_or 0 t (only s q ns) (lt ∙ sym length_only) (λ o h. same o (kind q o (omega arith)))

-- ---- the theorem

-- a file for each column, and no file without bytes
many : (s : List ℕ) (q : Params) → Image s q → (ns : List ℕ) → Listed q ns → length ns ≤ length (exported s q ns)
unfolding exported
many s q i [] L = omega arith
many s q i (n ∷ ns) (more h a L) = simp length-append (omega (arith, length_file s q i n h, many s q i ns L))

module _ (s : List ℕ) (q : Params) (i : Image s q) where
  -- "Export writes one file for column n"
  pub export_done : (n : ℕ) (t : List ℕ) → n < q.k + q.r → length t ≡ file_length q n → export_of s n t ≡ record { answer = Ok tt; image = file_of s q n }
  unfolding export_of export_read export_sound
  export_done n t h l = ap (export_read s n t) (sym (image_read s q i)) ∙ simp (lt-ltb n (q.k + q.r) h, eq-eqb (length t) (file_length q n) l)

  -- any columns, in the order of the list: "Absent columns and their revisions are filled with zeros"
  pub import_exported : (n : ℕ) (ns t : List ℕ) → Listed q (n ∷ ns) → length t ≡ image_length q
      → import_of (exported s q (n ∷ ns)) t ≡ record { answer = Ok (others q (n ∷ ns)); image = only s q (n ∷ ns) }
  unfolding import_of import_met import_sound exported
  import_exported n ns t (more h a L) l =
      let K : Listed q (n ∷ ns) = more h a L in
      let files : List ℕ = exported s q (n ∷ ns) in
      let b : length (n ∷ ns) ≤ length files = many s q i (n ∷ ns) K in
      let F : First files q = first_file s q i n h files [] (exported s q ns) 0 refl refl refl in
      let w : walk (length files - 0) files 0 0 ≡ Ok (marked 0 (n ∷ ns)) = walked s q i files n ns [] 0 0 (length files - 0) K F refl refl (λ m g. bit_zero m) (omega arith) in
      let f : fill (length files - 0) files q 0 (blank q) ≡ only s q (n ∷ ns) = filled s q i files (n ∷ ns) [] (blank q) 0 (length files - 0) K refl refl (omega arith) ∙ placed_only s q (n ∷ ns) i K in
      ap (import_met files t) w
      ∙ ap (λ (x : Params). import_sound files t x (marked 0 (n ∷ ns))) (first_is files q F)
      ∙ simp (eq-eqb (length t) (image_length q) l)
      (ap₂ (λ (x : ℕ) (y : List ℕ). record { answer = Ok x; image = y }) (absent_others q (n ∷ ns) K) f)

  -- ---- all columns

  module _ (ns : List ℕ) (all : AllListed q ns) where
    pub others_none : others q ns ≡ 0
    unfolding others
    others_none = pack_ext (q.k + q.r) _ (λ n. 0) (λ n h. rw (all n h) refl) ∙ pack_zero (q.k + q.r)

    section : (at n : ℕ) (g : ℕ → ℕ) → at + n ≤ length s → ((o : ℕ) → o < n → g o < q.k + q.r)
        → tab n (λ o. choose (among (g o) ns) (get_or s (at + o) 0) 0) ≡ part s at n
    section at n g h f =
        let l = length_part s at n h in
        sym (is_tab (part s at n) n _ l (λ o b. let c : o < n = omega arith in get_or_part s at n o c ∙ rw (all (g o) (f o c)) refl))

    pub only_all : ((o : ℕ) → get_or s o 0 < 256) → only s q ns ≡ s
    unfolding only_revisions only_columns only_parities
    only_all small =
        let l = i.len in
        let c : ℕ = column_length q in
        ap₂ (λ (x y : List ℕ). image_of q x y (tab (q.r * c) (λ o. choose (among (q.k + o / c) ns) (get_or s (parity_from q + o) 0) 0)))
        (section (revision_at 0) (4 * q.k) (λ o. o / 4) (omega arith) (λ o b. omega arith))
        (section (data_from q) (q.k * c) (λ o. o / c) (omega arith) (λ o b. omega (arith, row_below o q.k c b)))
        ∙ ap (image_of q (part s (revision_at 0) (4 * q.k)) (part s (data_from q) (q.k * c)))
        (section (parity_from q) (q.r * c) (λ o. q.k + o / c) (omega arith) (λ o b. omega (arith, row_below o q.r c b)))
        ∙ sym (image_is s q i small)

  -- "Exporting all columns and importing them in any order gives the image back."
  pub import_all : ((o : ℕ) → get_or s o 0 < 256) → (n : ℕ) (ns t : List ℕ) → Listed q (n ∷ ns) → AllListed q (n ∷ ns) → length t ≡ image_length q
      → import_of (exported s q (n ∷ ns)) t ≡ record { answer = Ok 0; image = s }
  import_all small n ns t L all l =
      import_exported n ns t L l ∙ ap₂ (λ (x : ℕ) (y : List ℕ). record { answer = Ok x; image = y }) (others_none (n ∷ ns) all) (only_all (n ∷ ns) all small)
