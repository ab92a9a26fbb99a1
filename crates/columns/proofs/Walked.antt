-- Import goes over the files of a list of columns to their end, and puts each column of the image in its place.
-- Assumes nothing.
use Prim.Native.Nat.{ℕ, zero, suc, ◌+◌, ◌^◌, ◌<◌, ◌≤◌}
use mathlib.Core.List.{List, [], ◌∷◌, ◌++◌, append_assoc, append-nil}
use mathlib.Core.Path.{◌≡◌, sym, ap, ◌∙◌}
use native.Mathlib.Omega.{arith}
use lib.ListN.{length, length-append}
use borrow.Author.Tests.{lt-ltb, le-ltb}
use Rattle.std.specs.Prelude.{Result, Ok}
use Rattle.laws.specs.Number.{u16}
use Rattle.laws.specs.Xor.{◌⊕◌}
use Rattle.stripe.specs.Reading.{Image}
use Rattle.stripe.specs.declared.Params.{Params}
use Rattle.column_file.specs.File.{number_at, file_length, revisions_of, strips_of, file_of}
use Rattle.file_by_file.specs.Files.{step_of, onward, walk}
use Rattle.filling.specs.Filled.{put_column, put_file, fill}
use Rattle.columns.specs.Only.{Listed, more, exported}
use Rattle.column_file.proofs.Columns.{length_file}
use Rattle.filling.proofs.Turns.{fill_none}
use Rattle.columns.proofs.Files.{First, stepped, length_files, is_n, file_put}
use Rattle.columns.proofs.Marks.{Fresh, marked, fresh_head, fresh_tail}
use Rattle.refusal.specs.declared.Refusal.{Refusal}
use Rattle.file_by_file.specs.declared.File.{File}

-- the columns of s that are listed, put one after the other into t
unfoldable pub placed : List ℕ → Params → List ℕ → List ℕ → List ℕ
placed s q [] t = t
placed s q (n ∷ ns) t = placed s q ns (put_column q n (revisions_of s q n) (strips_of s q n) t)

module _ (s : List ℕ) (q : Params) (i : Image s q) (files : List ℕ) where
  -- what a column's file and those behind it are of the files
  module _ (n : ℕ) (ns : List ℕ) (pre : List ℕ) (at : ℕ) (e : files ≡ pre ++ exported s q (n ∷ ns)) (l : length pre ≡ at) where
    split : files ≡ pre ++ (file_of s q n ++ exported s q ns)
    unfolding exported
    split = e

    next : files ≡ (pre ++ file_of s q n) ++ exported s q ns
    next = split ∙ sym (append_assoc pre (file_of s q n) (exported s q ns))

    after : n < q.k + q.r → length (pre ++ file_of s q n) ≡ at + file_length q n
    after h = simp length-append (omega (arith, length_file s q i n h))

    ends : n < q.k + q.r → length files ≡ at + file_length q n + length (exported s q ns)
    ends h = length_files s q i n h files pre (exported s q ns) at split l

  some_left : (n : ℕ) (ns : List ℕ) → n < q.k + q.r → 0 < length (exported s q (n ∷ ns))
  unfolding exported
  some_left n ns h = simp length-append (omega (arith, length_file s q i n h))

  walk_step : (left at met : ℕ) (w : Result File Refusal) → step_of files at met ≡ w → walk (suc left) files at met ≡ onward files met (λ to m. walk left files to m) w
  unfolding walk
  walk_step left at met w e = ap (onward files met (λ to m. walk left files to m)) e

  onward_last : (met n to : ℕ) (rest : ℕ → ℕ → Result ℕ Refusal) → length files ≤ to → onward files met rest (Ok (record { column = n; end = to })) ≡ Ok (met ⊕ 2 ^ n)
  unfolding onward
  onward_last met n to rest h = simp (le-ltb to (length files) h)

  onward_more : (met n to : ℕ) (rest : ℕ → ℕ → Result ℕ Refusal) → to < length files → onward files met rest (Ok (record { column = n; end = to })) ≡ rest to (met ⊕ 2 ^ n)
  unfolding onward
  onward_more met n to rest h = simp (lt-ltb to (length files) h)

  -- pass one: from the file of column n on
  pub walked : (n : ℕ) (ns pre : List ℕ) (at met left : ℕ) → Listed q (n ∷ ns) → First files q → files ≡ pre ++ exported s q (n ∷ ns) → length pre ≡ at
      → Fresh met (n ∷ ns) → length ns < left → walk left files at met ≡ Ok (marked met (n ∷ ns))
  unfolding marked exported
  walked n ns pre at met zero L F e l f b = absurd (omega arith)
  walked n [] pre at met (suc left) (more h a L) F e l f b =
      let g = ends n [] pre at e l h in
      walk_step left at met _ (stepped s q i n h files pre [] at e l met F (fresh_head met n [] f))
      ∙ onward_last met n (at + file_length q n) _ (omega arith)
  walked n (m ∷ ms) pre at met (suc left) (more h a (more h' a' L)) F e l f b =
      let g = ends n (m ∷ ms) pre at e l h in
      walk_step left at met _ (stepped s q i n h files pre (exported s q (m ∷ ms)) at e l met F (fresh_head met n (m ∷ ms) f))
      ∙ onward_more met n (at + file_length q n) _ (omega (arith, some_left m ms h'))
      ∙ walked m ms (pre ++ file_of s q n) (at + file_length q n) (met ⊕ 2 ^ n) left (more h' a' L) F (next n (m ∷ ms) pre at e l) (after n (m ∷ ms) pre at e l h)
      (fresh_tail met n (m ∷ ms) a f) (omega arith)

  fill_step : (left at n : ℕ) (t : List ℕ) → at < length files → u16 files (at + number_at) ≡ n → fill (suc left) files q at t ≡ fill left files q (at + file_length q n) (put_file files at q n t)
  unfolding fill
  fill_step left at n t h e = simp (lt-ltb at (length files) h) (ap (λ (x : ℕ). fill left files q (at + file_length q x) (put_file files at q x t)) e)

  -- pass two
  pub filled : (ns pre t : List ℕ) (at left : ℕ) → Listed q ns → files ≡ pre ++ exported s q ns → length pre ≡ at → length ns ≤ left
      → fill left files q at t ≡ placed s q ns t
  unfolding placed exported
  filled [] pre t at left L e l b = fill_none left files q at t (omega (arith, ap length e ∙ ap length (append-nil pre)))
  filled (n ∷ ns) pre t at zero L e l b = absurd (omega arith)
  filled (n ∷ ns) pre t at (suc left) (more h a L) e l b =
      let g = ends n ns pre at e l h in
      fill_step left at n t (omega arith) (is_n s q i n h files pre (exported s q ns) at e l)
      ∙ ap (λ (x : List ℕ). fill left files q (at + file_length q n) x) (file_put s q i n h files pre (exported s q ns) at e l t)
      ∙ filled ns (pre ++ file_of s q n) (put_column q n (revisions_of s q n) (strips_of s q n) t) (at + file_length q n) left L (next n ns pre at e l) (after n ns pre at e l h) (omega arith)
