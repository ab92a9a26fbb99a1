-- A column's parts copied into a slice of its file's length, and the counts put around them.
-- Assumes nothing.
use Prim.Native.Nat.{ℕ, ◌+◌, ◌-◌, ◌*◌, ◌<◌, ◌≤◌}
use mathlib.Core.List.{List, [], ◌∷◌, ◌++◌, append_assoc, append-nil}
use mathlib.Core.Logic.{inl}
use mathlib.Core.Path.{◌≡◌, refl, sym, ap, ap₂, ◌∙◌}
use native.Mathlib.Omega.{arith}
use lib.ListN.{length, take, drop, length-append, take-append-drop, drop_of_length-le}
use Rattle.laws.proofs.Part.{length_part, length_put, part_put, part_apart}
use Rattle.laws.proofs.Tab.{length_tab}
use Rattle.laws.specs.Part.{part, put}
use Rattle.engine.specs.Strips.{Strip}
use Rattle.stripe.proofs.Images.{put_between, cut_at, length_sixteen, length_opening}
use Rattle.stripe.specs.Layout.{column_length, revision_at}
use Rattle.stripe.specs.Sections.{sixteen, opening, PutIn}
use Rattle.stripe.specs.declared.Params.{Params}
use Rattle.column_file.specs.File.{column_at, flag, carried, flag_at, carried_at, revisions_from, strips_count_at, strips_from, file_length, file_holding, revisions_of, strips_of, file_of}
use Rattle.column_file.specs.Inner.{Empty, Asked}
use Rattle.column_file.proofs.Columns.{carried_data, carried_parity, column_in, length_revisions, length_strips}

-- ---- `copy_part`: the part as the code has it

pub part_copied : (s t u : List ℕ) (to from n : ℕ) → u ≡ put t to (take (from + n - from) (drop from s)) → u ≡ put t to (part s from n)
unfolding part
part_copied s t u to from n e = let z : from + n - from ≡ n = omega arith in e ∙ ap (λ (x : ℕ). put t to (take x (drop from s))) z

-- a list without bytes put anywhere
pub put_empty : (t v : List ℕ) (at : ℕ) → length v ≡ 0 → put t at v ≡ t
unfolding put
put_empty t [] at e = let z : at + 0 ≡ at = omega arith in ap (λ (x : ℕ). take at t ++ drop x t) z ∙ take-append-drop at t
put_empty t (x ∷ v) at e = absurd (omega arith)

-- and so the revisions of a parity column
pub no_revisions : (s t : List ℕ) (q : Params) (n to from : ℕ) → q.k ≤ n → t ≡ put t to (part s from (4 * carried q n))
unfolding part
no_revisions s t q n to from h = sym (put_empty t (part s from (4 * carried q n)) to (rw (carried_parity q n h) refl))

-- ---- the counts

module _ (s : List ℕ) (q : Params) (n : ℕ) (E : Empty s q n) where
  abbrev R : List ℕ
  R = part s revisions_from (4 * carried q n)

  abbrev S : List ℕ
  S = part s (strips_from q n) (column_length q)

  in_parts : s ≡ part s 0 flag_at ++ (part s flag_at 2 ++ (part s carried_at 2 ++ (R ++ (part s (strips_count_at q n) 2 ++ S))))
  in_parts =
      let l = E.room in
      let a1 : drop 0 s ≡ part s 0 flag_at ++ drop flag_at s = cut_at s 0 flag_at flag_at refl in
      let a2 = cut_at s flag_at 2 carried_at refl in
      let a3 = cut_at s carried_at 2 revisions_from refl in
      let a4 = cut_at s revisions_from (4 * carried q n) (strips_count_at q n) refl in
      let a5 = cut_at s (strips_count_at q n) 2 (strips_from q n) refl in
      let a6 = cut_at s (strips_from q n) (column_length q) (file_length q n) refl in
      let z : drop (file_length q n) s ≡ [] = drop_of_length-le s {i = file_length q n} (omega arith) in
      a1 ∙ rw (a2, a3, a4, a5, a6, z) (simp append-nil)

  pub counts_put : (t1 t2 t3 t4 : List ℕ) (f c e : ℕ) → PutIn t3 t4 e (sixteen (q.p - 1)) → e ≡ strips_count_at q n → PutIn t2 t3 carried_at (sixteen c) → c ≡ carried q n
      → PutIn t1 t2 flag_at (sixteen f) → f ≡ flag q n → PutIn s t1 0 (opening 6 q n) → t4 ≡ file_holding q n R S
  unfolding file_holding
  counts_put t1 t2 t3 t4 f c e w4 he w3 hc w2 hf w1 =
      let l = E.room in
      let o : List ℕ = opening 6 q n in
      let x : List ℕ = sixteen f in
      let y : List ℕ = sixteen c in
      let z : List ℕ = sixteen (q.p - 1) in
      let lo : length o ≡ 12 = length_opening 6 q n in
      let lx : length x ≡ 2 = length_sixteen f in
      let ly : length y ≡ 2 = length_sixteen c in
      let lz : length z ≡ 2 = length_sixteen (q.p - 1) in
      let l1 : length (part s 0 flag_at) ≡ 12 = length_part s 0 flag_at (omega arith) in
      let l2 : length (part s flag_at 2) ≡ 2 = length_part s flag_at 2 (omega arith) in
      let l3 : length (part s carried_at 2) ≡ 2 = length_part s carried_at 2 (omega arith) in
      let l4 : length (part s (strips_count_at q n) 2) ≡ 2 = length_part s (strips_count_at q n) 2 (omega arith) in
      let lR : length R ≡ 4 * carried q n = length_part s revisions_from (4 * carried q n) (omega arith) in
      let z1 = w1.bytes ∙ put_between s [] (part s 0 flag_at) _ o 0 in_parts refl (lo ∙ sym l1) in
      let z2 = w2.bytes ∙ put_between t1 o (part s flag_at 2) _ x flag_at z1 lo (lx ∙ sym l2) in
      let z3 = w3.bytes ∙ put_between t2 (o ++ x) (part s carried_at 2) _ y carried_at (z2 ∙ sym (append_assoc o x _)) (length-append o x ∙ omega arith) (ly ∙ sym l3) in
      let z4 : t4 ≡ (o ++ x ++ y ++ R) ++ (z ++ S) =
      w4.bytes ∙ put_between t3 (o ++ x ++ y ++ R) (part s (strips_count_at q n) 2) _ z e (z3 ∙ simp append_assoc) (simp (length-append, length_tab) (omega arith)) (lz ∙ sym l4) in
      z4 ∙ ap₂ (λ (a b : ℕ). (o ++ sixteen a ++ sixteen b ++ R) ++ (z ++ S)) hf hc ∙ simp append_assoc

-- ---- one column taken from an image

module _ (s t : List ℕ) (q : Params) (n : ℕ) (A : Asked s t q n) where
  pub asked_strips : (to from m : ℕ) → to ≡ strips_from q n → from ≡ column_at q n → m ≡ column_length q → Strip t s to from m
  asked_strips to from m f e g = record { there = omega (arith, A.room); here = omega (arith, column_in q n A.below, A.image.len) }

module _ (s t u : List ℕ) (q : Params) (n from : ℕ) where
  pub revisions_copied : n < q.k → from ≡ revision_at n → u ≡ put t revisions_from (part s from 4) → u ≡ put t revisions_from (revisions_of s q n)
  revisions_copied h e f = f ∙ ap₂ (λ (x y : ℕ). put t revisions_from (part s x (4 * y))) e (sym (carried_data q n h))

pub none_copied : (s t : List ℕ) (q : Params) (n : ℕ) → q.k ≤ n → t ≡ put t revisions_from (revisions_of s q n)
none_copied s t q n h = no_revisions s t q n revisions_from (revision_at n) h

-- ---- `fill`

module _ (s t u : List ℕ) (q : Params) (n : ℕ) (A : Asked s t q n) (e1 : u ≡ put t revisions_from (revisions_of s q n)) where
  lr : length (revisions_of s q n) ≡ 4 * carried q n
  lr = length_revisions s q A.image n A.below

  ls : length (strips_of s q n) ≡ column_length q
  ls = length_strips s q A.image n A.below

  r_in : revisions_from + length (revisions_of s q n) ≤ length t
  r_in = omega (arith, lr, A.room)

  lu : length u ≡ length t
  lu = ap length e1 ∙ length_put t revisions_from (revisions_of s q n) r_in

  s_in : strips_from q n + length (strips_of s q n) ≤ length u
  s_in = omega (arith, ls, lu, A.room)

  module _ (v : List ℕ) (e2 : v ≡ put u (strips_from q n) (strips_of s q n)) where
    pub file_filled : (w : List ℕ) → w ≡ file_holding q n (part v revisions_from (4 * carried q n)) (part v (strips_from q n) (column_length q)) → w ≡ file_of s q n
    unfolding file_of
    file_filled w e =
        let l = A.room in
        let z = lu in
        let r : part v revisions_from (4 * carried q n) ≡ revisions_of s q n =
        ap (λ (x : List ℕ). part x revisions_from (4 * carried q n)) e2 ∙ part_apart u (strips_from q n) (strips_of s q n) s_in revisions_from (4 * carried q n) (omega arith) (inl (omega arith))
        ∙ ap₂ (λ (x : List ℕ) (y : ℕ). part x revisions_from y) e1 (sym lr) ∙ part_put t revisions_from (revisions_of s q n) r_in in
        let c : part v (strips_from q n) (column_length q) ≡ strips_of s q n =
        ap₂ (λ (x : List ℕ) (y : ℕ). part x (strips_from q n) y) e2 (sym ls) ∙ part_put u (strips_from q n) (strips_of s q n) s_in in
        e ∙ ap₂ (file_holding q n) r c
