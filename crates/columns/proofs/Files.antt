-- The file of a column among files: its numbers, its revisions and strips; and that import accepts it.
-- Assumes nothing.
use Prim.Native.Nat.{ℕ, ◌+◌, ◌-◌, ◌*◌, ◌<◌}
use mathlib.Core.List.{List, ◌++◌, append_assoc}
use mathlib.Core.Path.{◌≡◌, sym, ap, ap₂, ◌∙◌}
use native.Mathlib.Omega.{arith}
use lib.ListN.{length, take, drop, length-append}
use lib.Seq.{take_at, drop_at}
use borrow.Author.Tests.{lt-ltb, le-ltb, eq-eqb}
use Rattle.std.specs.Prelude.{Ok}
use Rattle.laws.proofs.Tab.{length_tab}
use Rattle.laws.specs.Bit.{bit}
use Rattle.laws.specs.Number.{u16}
use Rattle.laws.specs.Part.{part}
use Rattle.stripe.proofs.Frame.{admitted_checked}
use Rattle.stripe.proofs.Images.{number_in}
use Rattle.stripe.specs.Layout.{rows, column_length}
use Rattle.stripe.specs.Params.{checked_of, Admitted}
use Rattle.stripe.specs.Reading.{Image}
use Rattle.stripe.specs.Sections.{sixteen, opening}
use Rattle.stripe.specs.declared.Params.{Params}
use Rattle.column_file.proofs.Columns.{carried_small, flag_small, length_revisions, length_strips, length_file}
use Rattle.column_file.specs.File.{flag, carried, file_1, file_2, file_3, number_at, flag_at, carried_at, revisions_from, strips_count_at, strips_from, file_length, file_holding, revisions_of, strips_of, file_of}
use Rattle.file_by_file.specs.Files.{first_params, alike, counted, body_step, column_step, checked_step, step_of}
use Rattle.filling.specs.Filled.{put_column, put_file}

part_in : (t pre v post : List ℕ) (at n : ℕ) → t ≡ pre ++ (v ++ post) → length pre ≡ at → length v ≡ n → part t at n ≡ v
unfolding part
part_in t pre v post at n z e f = ap (λ (x : List ℕ). take n (drop at x)) z ∙ ap (take n) (drop_at pre (v ++ post) at e) ∙ take_at v post n f

-- the parameters of the first of the files
pub record First (files : List ℕ) (q : Params) : Type 0 where
  pub p_at : u16 files 2 ≡ q.p
  pub k_at : u16 files 4 ≡ q.k
  pub r_at : u16 files 6 ≡ q.r
  pub b_at : u16 files 8 ≡ q.b

pub first_is : (files : List ℕ) (q : Params) → First files q → first_params files ≡ q
first_is files q F =
    ap₂ (λ (x y : ℕ). record { p = x; k = y; r = u16 files 6; b = u16 files 8 }) F.p_at F.k_at
    ∙ ap₂ (λ (x y : ℕ). record { p = q.p; k = q.k; r = x; b = y }) F.r_at F.b_at

module _ (s : List ℕ) (q : Params) (i : Image s q) (n : ℕ) (h : n < q.k + q.r) (files pre post : List ℕ) (at : ℕ)
    (e : files ≡ pre ++ (file_of s q n ++ post)) (l : length pre ≡ at) where
  A : Admitted q
  A = i.admitted

  abbrev R : List ℕ
  R = revisions_of s q n

  abbrev S : List ℕ
  S = strips_of s q n

  -- what stands behind section one
  abbrev rest : List ℕ
  rest = file_2 q n R ++ file_3 q S ++ post

  abbrev P : List ℕ
  P = sixteen q.p

  abbrev K : List ℕ
  K = sixteen q.k

  abbrev Q : List ℕ
  Q = sixteen q.r

  abbrev B : List ℕ
  B = sixteen q.b

  abbrev N : List ℕ
  N = sixteen n

  abbrev F : List ℕ
  F = sixteen (flag q n)

  six : u16 files at ≡ 6
  unfolding file_of file_holding
  six = number_in files pre (P ++ K ++ Q ++ B ++ N ++ F ++ rest) 6 at (e ∙ simp append_assoc) l (omega arith)

  is_p : u16 files (at + 2) ≡ q.p
  unfolding file_of file_holding
  is_p = number_in files (pre ++ sixteen 6) (K ++ Q ++ B ++ N ++ F ++ rest) q.p (at + 2) (e ∙ simp append_assoc) (simp (length-append, length_tab) (omega arith)) (omega (arith, A.p_high))

  is_k : u16 files (at + 4) ≡ q.k
  unfolding file_of file_holding
  is_k =
      number_in files (pre ++ sixteen 6 ++ P) (Q ++ B ++ N ++ F ++ rest) q.k (at + 4) (e ∙ simp append_assoc) (simp (length-append, length_tab) (omega arith)) (omega (arith, A.p_high, A.fits))

  is_r : u16 files (at + 6) ≡ q.r
  unfolding file_of file_holding
  is_r =
      number_in files (pre ++ sixteen 6 ++ P ++ K) (B ++ N ++ F ++ rest) q.r (at + 6) (e ∙ simp append_assoc) (simp (length-append, length_tab) (omega arith)) (omega (arith, A.p_high, A.fits))

  is_b : u16 files (at + 8) ≡ q.b
  unfolding file_of file_holding
  is_b =
      number_in files (pre ++ sixteen 6 ++ P ++ K ++ Q) (N ++ F ++ rest) q.b (at + 8) (e ∙ simp append_assoc) (simp (length-append, length_tab) (omega arith)) (omega (arith, A.b_high))

  pub is_n : u16 files (at + number_at) ≡ n
  unfolding file_of file_holding
  is_n =
      number_in files (pre ++ sixteen 6 ++ P ++ K ++ Q ++ B) (F ++ rest) n (at + number_at) (e ∙ simp append_assoc) (simp (length-append, length_tab) (omega arith)) (omega (arith, A.p_high, A.fits))

  is_flag : u16 files (at + flag_at) ≡ flag q n
  unfolding file_of file_holding
  is_flag =
      number_in files (pre ++ opening 6 q n) rest (flag q n) (at + flag_at) (e ∙ simp append_assoc) (simp (length-append, length_tab) (omega arith)) (omega (arith, flag_small q n))

  is_carried : u16 files (at + carried_at) ≡ carried q n
  unfolding file_of file_holding
  is_carried =
      number_in files (pre ++ file_1 q n) (R ++ file_3 q S ++ post) (carried q n) (at + carried_at) (e ∙ simp append_assoc) (simp (length-append, length_tab) (omega arith)) (omega (arith, carried_small q n))

  is_rows : u16 files (at + strips_count_at q n) ≡ rows q
  unfolding file_of file_holding
  is_rows =
      number_in files (pre ++ file_1 q n ++ file_2 q n R) (S ++ post) (rows q) (at + strips_count_at q n)
      (e ∙ simp append_assoc) (simp (length-append, length_tab) (omega (arith, length_revisions s q i n h))) (omega (arith, A.p_high))

  revisions_are : part files (at + revisions_from) (4 * carried q n) ≡ R
  unfolding file_of file_holding
  revisions_are =
      part_in files (pre ++ file_1 q n ++ sixteen (carried q n)) R (file_3 q S ++ post) (at + revisions_from) (4 * carried q n)
      (e ∙ simp append_assoc) (simp (length-append, length_tab) (omega arith)) (length_revisions s q i n h)

  strips_are : part files (at + strips_from q n) (column_length q) ≡ S
  unfolding file_of file_holding
  strips_are =
      part_in files (pre ++ file_1 q n ++ file_2 q n R ++ sixteen (rows q)) S post (at + strips_from q n) (column_length q)
      (e ∙ simp append_assoc) (simp (length-append, length_tab) (omega (arith, length_revisions s q i n h))) (length_strips s q i n h)

  pub length_files : length files ≡ at + file_length q n + length post
  length_files = ap length e ∙ simp length-append (omega (arith, length_file s q i n h))

  pub first_file : at ≡ 0 → First files q
  first_file z =
      let f : (x : ℕ) → at + x ≡ x = λ x. omega arith in
      record {
        p_at = rw (f 2) at is_p;
        k_at = rw (f 4) at is_k;
        r_at = rw (f 6) at is_r;
        b_at = rw (f 8) at is_b;
      }

  pub file_put : (t : List ℕ) → put_file files at q n t ≡ put_column q n (revisions_of s q n) (strips_of s q n) t
  unfolding put_file
  file_put t = ap₂ (λ (x y : List ℕ). put_column q n x y t) revisions_are strips_are

  -- import accepts it
  pub stepped : (met : ℕ) → First files q → bit met n ≡ 0 → step_of files at met ≡ Ok (record { column = n; end = at + file_length q n })
  unfolding step_of checked_step column_step body_step alike counted
  stepped met F fresh =
      let long = length_files in
      let c : checked_of (u16 files (at + 2)) (u16 files (at + 4)) (u16 files (at + 6)) (u16 files (at + 8)) ≡ Ok q =
      ap₂ (λ (x y : ℕ). checked_of x y (u16 files (at + 6)) (u16 files (at + 8))) is_p is_k ∙ ap₂ (λ (x y : ℕ). checked_of q.p q.k x y) is_r is_b ∙ sym (admitted_checked q A) in
      simp (le-ltb (length files - at) 2 (omega arith), eq-eqb (u16 files at) 6 six, le-ltb (length files - at) 14 (omega arith))
      (ap (checked_step files at met) c
      ∙ ap (column_step files at met q) is_n
      ∙ simp (lt-ltb n (q.k + q.r) h, eq-eqb (u16 files (at + 2)) (u16 files 2) (is_p ∙ sym F.p_at), eq-eqb (u16 files (at + 4)) (u16 files 4) (is_k ∙ sym F.k_at), eq-eqb (u16 files (at + 6)) (u16 files 6) (is_r ∙ sym F.r_at), eq-eqb (u16 files (at + 8)) (u16 files 8) (is_b ∙ sym F.b_at), eq-eqb (u16 files (at + flag_at)) (flag q n) is_flag, eq-eqb (bit met n) 0 fresh, le-ltb (length files - at) (file_length q n) (omega arith), eq-eqb (u16 files (at + carried_at)) (carried q n) is_carried, eq-eqb (u16 files (at + strips_count_at q n)) (rows q) is_rows))
