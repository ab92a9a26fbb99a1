-- To clear the absent columns alone is enough: every byte of the others is put from its file.
-- Assumes nothing.
use Prim.Native.Nat.{ℕ, zero, suc, ◌+◌, ◌-◌, ◌*◌, ◌/◌, ◌%◌, ◌^◌, ◌<◌, ◌≤◌}
use mathlib.Core.Bool.{Bool, true, false}
use mathlib.Core.List.{List}
use mathlib.Core.Logic.{◌≢◌, ◌⊎◌, inl, inr}
use mathlib.Core.Path.{◌≡◌, refl, sym, ap, subst, ◌∙◌}
use native.Mathlib.Decide.{ℕ_discrete}
use native.Mathlib.Omega.{arith}
use lib.Dec.{ltb, eqb}
use lib.ListN.{length, get_or}
use lib.Seq.{ext_get_or}
use borrow.Author.Tests.{eq-eqb, ne_eqb}
use Rattle.std.specs.Prelude.{Result, Ok, Err}
use Rattle.laws.proofs.Bit.{bit_zero, bit_digit}
use Rattle.laws.proofs.Part.{length_part, get_or_part}
use Rattle.laws.proofs.Tab.{length_tab, get_or_tab}
use Rattle.laws.specs.Bit.{bit}
use Rattle.laws.specs.Choose.{choose}
use Rattle.laws.specs.Number.{u16}
use Rattle.laws.specs.Part.{part}
use Rattle.laws.specs.Xor.{◌⊕◌}
use Rattle.stripe.proofs.Images.{length_image_of, of_opening, of_revisions, of_third, of_columns, of_fourth, of_parities, length_revisions_in, length_columns_in, length_parities_in}
use Rattle.stripe.specs.Layout.{column_length, revision_at, data_from, parity_from, image_length}
use Rattle.stripe.specs.Params.{Admitted}
use Rattle.stripe.specs.Sections.{image_of, revisions_in, columns_in, parities_in, Fits}
use Rattle.stripe.specs.declared.Params.{Params}
use Rattle.column_file.specs.File.{carried, number_at, revisions_from, strips_from, file_length}
use Rattle.file_by_file.proofs.Steps.{Accepted, accepted}
use Rattle.file_by_file.specs.Files.{step_of, onward, walk, first_params}
use Rattle.file_by_file.specs.Inner.{Whole, Files, end, more}
use Rattle.filling.proofs.Bytes.{Of, Byte, inner, outer, byte, put_there, put_stays, length_put_column}
use Rattle.filling.proofs.Marks.{mark_other}
use Rattle.filling.proofs.Spots.{Kind, heads, revisions, third, columns, fourth, parities, kind, revision_byte_of, data_of, parity_of, row_below}
use Rattle.filling.proofs.Turns.{fill_none, fill_turn, walk_whole}
use Rattle.filling.specs.Filled.{zeros, blank, put_column, put_file, filled_from}
use Rattle.filling.specs.Inner.{MetReady, AllReady, cleared_one, cleared}
use Rattle.refusal.specs.declared.Refusal.{Refusal}
use Rattle.file_by_file.specs.declared.File.{File}

-- ---- the first columns cleared, where they were not met

module _ (q : Params) (met : ℕ) where
  abbrev C : ℕ
  C = column_length q

  clear_byte : (n : ℕ) → n < q.k + q.r → (o : ℕ) → Byte q n (zeros (4 * carried q n)) (zeros C) (λ x. x ≡ 0) o
  clear_byte n h =
      byte q n (zeros (4 * carried q n)) (zeros C) h (length_tab (4 * carried q n) (λ o. 0)) (length_tab C (λ o. 0)) (λ o x. x ≡ 0)
      (λ i b. get_or_tab (4 * carried q n) (λ o. 0) i b) (λ i b. get_or_tab C (λ o. 0) i b)

  length_turn : (n : ℕ) (b : Bool) (u : List ℕ) → n < q.k + q.r → length u ≡ image_length q
      → length (choose b (put_column q n (zeros (4 * carried q n)) (zeros C) u) u) ≡ image_length q
  length_turn n true u h l = length_put_column q n (zeros (4 * carried q n)) (zeros C) h (length_tab (4 * carried q n) (λ o. 0)) (length_tab C (λ o. 0)) u l
  length_turn n false u h l = l

  pub length_cleared : (n : ℕ) (t : List ℕ) → n ≤ q.k + q.r → length t ≡ image_length q → length (cleared n q met t) ≡ image_length q
  unfolding cleared
  length_cleared zero t h l = l
  length_cleared (suc n) t h l = length_turn n (eqb (bit met n) 0) (cleared n q met t) (omega arith) (length_cleared n t (omega arith) l)

  zero_stays : (n o : ℕ) (b : Bool) (u : List ℕ) → n < q.k + q.r → length u ≡ image_length q → get_or u o 0 ≡ 0
      → get_or (choose b (put_column q n (zeros (4 * carried q n)) (zeros C) u) u) o 0 ≡ 0
  zero_stays n o false u h l z = z
  zero_stays n o true u h l z = put_stays q n _ _ o 0 u l (clear_byte n h o) z

  pub cleared_zero : (m : ℕ) (t : List ℕ) → m ≤ q.k + q.r → length t ≡ image_length q → (n o : ℕ) → n < m → bit met n ≡ 0 → Of q n o → get_or (cleared m q met t) o 0 ≡ 0
  unfolding cleared
  cleared_zero zero t h l n o b e f = absurd (omega arith)
  cleared_zero (suc m) t h l n o b e f = go (ℕ_discrete n m) (λ g. cleared_zero m t (omega arith) l n o g e f)
    where
      lu : length (cleared m q met t) ≡ image_length q
      lu = length_cleared m t (omega arith) l

      go : Dec (n ≡ m) → (n < m → get_or (cleared m q met t) o 0 ≡ 0)
          → get_or (choose (eqb (bit met m) 0) (put_column q m (zeros (4 * carried q m)) (zeros C) (cleared m q met t)) (cleared m q met t)) o 0 ≡ 0
      go (yes d) ih =
          let y : bit met m ≡ 0 = ap (bit met) (sym d) ∙ e in
          rw (eq-eqb (bit met m) 0 y) (put_there q m _ _ o 0 (cleared m q met t) lu (clear_byte m (omega arith) o) (subst (λ (x : ℕ). Of q x o) d f))
      go (no d) ih = zero_stays m o (eqb (bit met m) 0) (cleared m q met t) (omega arith) lu (ih (omega (arith, d)))

-- ---- a file from a place on has the column of byte o

pub data Later (s : List ℕ) (q : Params) (o : ℕ) : ℕ → Type 0 where
  here : {at : ℕ} → at < length s → Of q (u16 s (at + number_at)) o → Later s q o at
  there : {at : ℕ} → at < length s → Later s q o (at + file_length q (u16 s (at + number_at))) → Later s q o at

-- two images that are filled alike: what differs is put from a file
abbrev pub FilledAlike : List ℕ → Params → ℕ → List ℕ → List ℕ → Type 0
FilledAlike s q at t u = (o : ℕ) → o < image_length q → (get_or t o 0 ≡ get_or u o 0) ⊎ Later s q o at

module _ (s : List ℕ) (q : Params) where
  file_byte : (at n : ℕ) → Whole s q at n → (o : ℕ) → Byte q n (part s (at + revisions_from) (4 * carried q n)) (part s (at + strips_from q n) (column_length q)) (λ x. x ≡ x) o
  file_byte at n W =
      byte q n _ _ W.below (length_part s (at + revisions_from) (4 * carried q n) (omega (arith, W.here)))
      (length_part s (at + strips_from q n) (column_length q) (omega (arith, W.here))) (λ o x. x ≡ x) (λ i b. refl) (λ i b. refl)

  length_put_file : (at n : ℕ) (t : List ℕ) → Whole s q at n → length t ≡ image_length q → length (put_file s at q n t) ≡ image_length q
  unfolding put_file
  length_put_file at n t W l =
      length_put_column q n _ _ W.below (length_part s (at + revisions_from) (4 * carried q n) (omega (arith, W.here)))
      (length_part s (at + strips_from q n) (column_length q) (omega (arith, W.here))) t l

  alike_behind : (at : ℕ) (t u : List ℕ) → Whole s q at (u16 s (at + number_at)) → length t ≡ image_length q → length u ≡ image_length q → FilledAlike s q at t u
      → (let n : ℕ = u16 s (at + number_at) in FilledAlike s q (at + file_length q n) (put_file s at q n t) (put_file s at q n u))
  unfolding put_file
  alike_behind at t u W lt lu F o b = go (file_byte at n W o) (F o b)
    where
      n : ℕ
      n = u16 s (at + number_at)

      go : Byte q (u16 s (at + number_at)) (part s (at + revisions_from) (4 * carried q (u16 s (at + number_at)))) (part s (at + strips_from q (u16 s (at + number_at))) (column_length q)) (λ x. x ≡ x) o
          → (get_or t o 0 ≡ get_or u o 0) ⊎ Later s q o at
          → (get_or (put_column q (u16 s (at + number_at)) (part s (at + revisions_from) (4 * carried q (u16 s (at + number_at)))) (part s (at + strips_from q (u16 s (at + number_at))) (column_length q)) t) o 0
          ≡ get_or (put_column q (u16 s (at + number_at)) (part s (at + revisions_from) (4 * carried q (u16 s (at + number_at)))) (part s (at + strips_from q (u16 s (at + number_at))) (column_length q)) u) o 0)
          ⊎ Later s q o (at + file_length q (u16 s (at + number_at)))
      go (inner x e w g) f = inl (g t lt ∙ sym (g u lu))
      go (outer w g) (inl e) = inl (g t lt ∙ e ∙ sym (g u lu))
      go (outer w g) (inr (here l f)) = absurd (w f)
      go (outer w g) (inr (there l f)) = inr f

  pub filled_alike : (at : ℕ) → Files s q at → (t u : List ℕ) → length t ≡ image_length q → length u ≡ image_length q → FilledAlike s q at t u
      → filled_from s q at t ≡ filled_from s q at u
  filled_alike at (end h) t u lt lu F =
      fill_none (length s - at) s q at t h ∙ ext_get_or 0 t u (lt ∙ sym lu) (λ o b. only o (F o (omega arith))) ∙ sym (fill_none (length s - at) s q at u h)
    where
      only : (o : ℕ) → (get_or t o 0 ≡ get_or u o 0) ⊎ Later s q o at → get_or t o 0 ≡ get_or u o 0
      only o (inl e) = e
      only o (inr (here l f)) = absurd (omega arith)
      only o (inr (there l f)) = absurd (omega arith)
  filled_alike at (more W f) t u lt lu F =
      let n : ℕ = u16 s (at + number_at) in
      let l : at < length s = omega (arith, W.here) in
      fill_turn s q at t l
      ∙ filled_alike (at + file_length q n) f (put_file s at q n t) (put_file s at q n u) (length_put_file at n t W lt) (length_put_file at n u W lu) (alike_behind at t u W lt lu F)
      ∙ sym (fill_turn s q at u l)

-- ---- a column that was met has a file

marked_by : (m n c : ℕ) → bit (m ⊕ 2 ^ c) n ≡ 1 → (n ≡ c) ⊎ (bit m n ≡ 1)
marked_by m n c e = go (ℕ_discrete n c)
  where
    go : Dec (n ≡ c) → (n ≡ c) ⊎ (bit m n ≡ 1)
    go (yes d) = inl d
    go (no d) = inr (sym (mark_other m c n d) ∙ e)

abbrev MetLater : List ℕ → ℕ → ℕ → ℕ → Type 0
MetLater s at m n = (bit m n ≡ 1) ⊎ ((o : ℕ) → Of (first_params s) n o → Later s (first_params s) o at)

met_later : (most : ℕ) (s : List ℕ) (at m met : ℕ) → walk most s at m ≡ Ok met → (n : ℕ) → bit met n ≡ 1 → MetLater s at m n
unfolding walk onward
met_later zero s at m met e n b = let z : ◌≡◌ {A = ℕ} 0 1 = cc in absurd (omega arith)
met_later (suc most) s at m met e n b = go (λ to k f. met_later most s to k met f n b) (step_of s at m) refl e
  where
    this : (c to : ℕ) → Accepted s at c to → bit (m ⊕ 2 ^ c) n ≡ 1 → MetLater s at m n
    this c to A f = split (marked_by m n c f)
      where
        split : (n ≡ c) ⊎ (bit m n ≡ 1) → MetLater s at m n
        split (inl d) = inr (λ o w. here {at = at} (omega (arith, A.whole.here)) (subst (λ (x : ℕ). Of (first_params s) x o) (d ∙ A.column) w))
        split (inr d) = inl d

    next : (c to : ℕ) → Accepted s at c to → MetLater s to (m ⊕ 2 ^ c) n
        → MetLater s at m n
    next c to A (inl f) = this c to A f
    next c to A (inr f) =
        inr (λ o w. there {at = at} (omega (arith, A.whole.here)) (subst (Later s (first_params s) o) (A.next ∙ ap (λ (x : ℕ). at + file_length (first_params s) x) A.column) (f o w)))

    behind : ((to k : ℕ) → walk most s to k ≡ Ok met → MetLater s to k n)
        → (c to : ℕ) → Accepted s at c to → (v : Bool) → choose v (walk most s to (m ⊕ 2 ^ c)) (Ok (m ⊕ 2 ^ c)) ≡ Ok met
        → MetLater s at m n
    behind ih c to A true f = next c to A (ih to (m ⊕ 2 ^ c) f)
    behind ih c to A false f = let z : m ⊕ 2 ^ c ≡ met = cc in this c to A (ap (λ (x : ℕ). bit x n) z ∙ b)

    go : ((to k : ℕ) → walk most s to k ≡ Ok met → MetLater s to k n)
        → (w : Result File Refusal) → w ≡ step_of s at m → onward s m (λ to k. walk most s to k) w ≡ Ok met → MetLater s at m n
    go ih (Err x) z f = let y : ◌≡◌ {A = ℕ} 0 1 = cc in absurd (omega arith)
    go ih (Ok x) z f = behind ih x.column x.end (accepted s at m x.column x.end (Ok x) refl z) (ltb x.end (length s)) f

-- ---- the turns of `clear_absent`

module _ (t : List ℕ) (q : Params) (met : ℕ) where
  pub turned : (n : ℕ) (u v : List ℕ) → u ≡ cleared n q met t → v ≡ cleared_one n q met u → v ≡ cleared (n + 1) q met t
  unfolding cleared
  turned n u v e f = let z : n + 1 ≡ suc n = omega arith in rw z (f ∙ ap (cleared_one n q met) e)

  pub cleared_none : t ≡ cleared 0 q met t
  unfolding cleared
  cleared_none = refl

-- ---- `clear_unmet`: the bit as the code has it

pub unmet_cleared : (t u : List ℕ) (q : Params) (met n : ℕ) → met / 2 ^ n % 2 ≡ 0 → u ≡ put_column q n (zeros (4 * carried q n)) (zeros (column_length q)) t → u ≡ cleared_one n q met t
unfolding bit
unmet_cleared t u q met n h e = e ∙ sym (simp (eq-eqb (met / 2 ^ n % 2) 0 h))

pub met_kept : (t : List ℕ) (q : Params) (met n : ℕ) → met / 2 ^ n % 2 ≢ 0 → t ≡ cleared_one n q met t
unfolding bit
met_kept t q met n h = sym (simp (ne_eqb (met / 2 ^ n % 2) 0 h))

-- ---- `fill`

module _ (s t : List ℕ) (q : Params) (met : ℕ) (R : MetReady s t q met) where
  both : Whole s (first_params s) 0 (u16 s number_at) × Files s (first_params s) 0
  both = walk_whole (length s - 0) s 0 0 met R.columns

  A : Admitted q
  A = rw R.params both.0.admitted

  pub ready_fits : Fits t q
  ready_fits = record { admitted = A; room = R.room }

  module _ (c : List ℕ) (ec : c ≡ cleared (q.k + q.r) q met t) where
    lc : length c ≡ image_length q
    lc = ap length ec ∙ length_cleared q met (q.k + q.r) t (omega arith) R.room

    pub cleared_fits : Fits c q
    cleared_fits = record { admitted = A; room = lc }

    abbrev D : List ℕ
    D = image_of q (revisions_in c q) (columns_in c q) (parities_in c q)

    ld : length D ≡ image_length q
    ld = length_image_of q _ _ _ (length_revisions_in c q lc) (length_columns_in c q lc) (length_parities_in c q lc)

    pub counted_ready : (d : List ℕ) → d ≡ image_of q (revisions_in c q) (columns_in c q) (parities_in c q) → AllReady s d q
    counted_ready d e = record { admitted = A; files = rw R.params both.1; room = ap length e ∙ ld }

    zr : length (zeros (4 * q.k)) ≡ 4 * q.k
    zr = length_tab (4 * q.k) (λ o. 0)

    zc : length (zeros (q.k * column_length q)) ≡ q.k * column_length q
    zc = length_tab (q.k * column_length q) (λ o. 0)

    zp : length (zeros (q.r * column_length q)) ≡ q.r * column_length q
    zp = length_tab (q.r * column_length q) (λ o. 0)

    lb : length (blank q) ≡ image_length q
    unfolding blank
    lb = length_image_of q _ _ _ zr zc zp

    -- byte o, of column n, of the image with its counts: 0 as in the blank one, or put from a file
    of_column : (n o : ℕ) → n < q.k + q.r → Of q n o → get_or D o 0 ≡ get_or c o 0 → get_or (blank q) o 0 ≡ 0 → (get_or D o 0 ≡ get_or (blank q) o 0) ⊎ Later s q o 0
    of_column n o h f e z = go (bit met n) refl (bit_digit met n)
      where
        later : MetLater s 0 0 n → Later s q o 0
        later (inl y) = absurd (omega (arith, y, bit_zero n))
        later (inr y) = subst (λ (x : Params). Of x n o → Later s x o 0) (sym R.params) (y o) f

        go : (b : ℕ) → bit met n ≡ b → b < 2 → (get_or D o 0 ≡ get_or (blank q) o 0) ⊎ Later s q o 0
        go zero y l = inl (e ∙ ap (λ (x : List ℕ). get_or x o 0) ec ∙ cleared_zero q met (q.k + q.r) t (omega arith) R.room n o h y f ∙ sym z)
        go (suc zero) y l = inr (later (met_later (length s - 0) s 0 0 met R.columns n y))
        go (suc (suc b)) y l = absurd (omega arith)

    alike_at : (o : ℕ) → Kind q o → (get_or D o 0 ≡ get_or (blank q) o 0) ⊎ Later s q o 0
    unfolding blank
    alike_at o (heads h) = inl (of_opening q _ _ _ (length_revisions_in c q lc) (length_columns_in c q lc) (length_parities_in c q lc) o h ∙ sym (of_opening q _ _ _ zr zc zp o h))
    alike_at o (third x h e) =
        inl (rw e (of_third q _ _ _ (length_revisions_in c q lc) (length_columns_in c q lc) (length_parities_in c q lc) x h ∙ sym (of_third q _ _ _ zr zc zp x h)))
    alike_at o (fourth x h e) =
        inl (rw e (of_fourth q _ _ _ (length_revisions_in c q lc) (length_columns_in c q lc) (length_parities_in c q lc) x h ∙ sym (of_fourth q _ _ _ zr zc zp x h)))
    alike_at o (revisions x h e) =
        rw e (of_column (x / 4) (revision_at 0 + x) (omega arith) (revision_byte_of q x h)
        (of_revisions q _ _ _ (length_revisions_in c q lc) (length_columns_in c q lc) (length_parities_in c q lc) x h ∙ get_or_part c (revision_at 0) (4 * q.k) x h)
        (of_revisions q _ _ _ zr zc zp x h ∙ get_or_tab (4 * q.k) (λ o. 0) x h))
    alike_at o (columns x h e) =
        rw e (of_column (x / column_length q) (data_from q + x) (omega (arith, row_below x q.k (column_length q) h)) (data_of q x h)
        (of_columns q _ _ _ (length_revisions_in c q lc) (length_columns_in c q lc) (length_parities_in c q lc) x h ∙ get_or_part c (data_from q) (q.k * column_length q) x h)
        (of_columns q _ _ _ zr zc zp x h ∙ get_or_tab (q.k * column_length q) (λ o. 0) x h))
    alike_at o (parities x h e) =
        rw e (of_column (q.k + x / column_length q) (parity_from q + x) (omega (arith, row_below x q.r (column_length q) h)) (parity_of q x h)
        (of_parities q _ _ _ (length_revisions_in c q lc) (length_columns_in c q lc) (length_parities_in c q lc) x h ∙ get_or_part c (parity_from q) (q.r * column_length q) x h)
        (of_parities q _ _ _ zr zc zp x h ∙ get_or_tab (q.r * column_length q) (λ o. 0) x h))

    pub all_filled : (d u : List ℕ) → d ≡ image_of q (revisions_in c q) (columns_in c q) (parities_in c q) → u ≡ filled_from s q 0 d → u ≡ filled_from s q 0 (blank q)
    all_filled d u e f =
        f ∙ ap (filled_from s q 0) e ∙ filled_alike s q 0 (rw R.params both.1) D (blank q) ld lb (λ o b. alike_at o (kind q o b))
