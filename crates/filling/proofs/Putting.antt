-- One column of a file put into an image, and one column cleared.
-- Assumes nothing.
use Prim.Native.Nat.{ℕ, ◌+◌, ◌*◌, ◌<◌, ◌≤◌}
use mathlib.Core.List.{List}
use mathlib.Core.Path.{◌≡◌, sym, ap, ap₂, ◌∙◌}
use native.Mathlib.Omega.{arith}
use lib.ListN.{length}
use Rattle.laws.proofs.Tab.{length_tab}
use Rattle.laws.specs.Part.{part, put}
use Rattle.engine.specs.Strips.{Strip}
use Rattle.stripe.specs.Layout.{column_length, revision_at}
use Rattle.stripe.specs.declared.Params.{Params}
use Rattle.column_file.proofs.Columns.{carried_data, carried_parity, column_in}
use Rattle.column_file.proofs.Writing.{put_empty, no_revisions}
use Rattle.column_file.specs.File.{column_at, carried, revisions_from, strips_from}
use Rattle.file_by_file.specs.Inner.{Whole}
use Rattle.filling.specs.Filled.{zeros, put_column, put_file}
use Rattle.filling.specs.Inner.{OneReady, Clearable}
use Rattle.filling.proofs.Bytes.{length_revised}

-- ---- one column

module _ (s t : List ℕ) (q : Params) (at n : ℕ) (T : OneReady s t q at n) where
  W : Whole s q at n
  W = T.whole

  pub taken_strips : (c to m : ℕ) → c ≡ strips_from q n → to ≡ column_at q n → m ≡ column_length q → Strip t s to (at + c) m
  taken_strips c to m hc e f = record { there = omega (arith, column_in q n W.below, T.room); here = omega (arith, W.here) }

module _ (s t : List ℕ) (q : Params) (n from : ℕ) where
  pub revisions_put : (u : List ℕ) (to : ℕ) → n < q.k → to ≡ revision_at n → u ≡ put t to (part s from 4) → u ≡ put t (revision_at n) (part s from (4 * carried q n))
  revisions_put u to h e f = f ∙ ap₂ (λ (x y : ℕ). put t x (part s from (4 * y))) e (sym (carried_data q n h))

  pub no_revisions_put : (to : ℕ) → q.k ≤ n → t ≡ put t to (part s from (4 * carried q n))
  no_revisions_put to h = no_revisions s t q n to from h

pub file_put : (s t u v : List ℕ) (q : Params) (at n : ℕ) → v ≡ put u (column_at q n) (part s (at + strips_from q n) (column_length q))
    → u ≡ put t (revision_at n) (part s (at + revisions_from) (4 * carried q n)) → v ≡ put_file s at q n t
unfolding put_file put_column
file_put s t u v q at n e f = e ∙ ap (λ (x : List ℕ). put x (column_at q n) (part s (at + strips_from q n) (column_length q))) f

-- ---- one column cleared

module _ (t : List ℕ) (q : Params) (n : ℕ) (K : Clearable t q n) where
  pub revisions_cleared : (u : List ℕ) (to : ℕ) → n < q.k → to ≡ revision_at n → u ≡ put t to (zeros 4) → u ≡ put t (revision_at n) (zeros (4 * carried q n))
  revisions_cleared u to h e f = f ∙ ap₂ (λ (x y : ℕ). put t x (zeros (4 * y))) e (sym (carried_data q n h))

  pub no_revisions_cleared : q.k ≤ n → t ≡ put t (revision_at n) (zeros (4 * carried q n))
  no_revisions_cleared h =
      sym (put_empty t (zeros (4 * carried q n)) (revision_at n) (length_tab (4 * carried q n) (λ o. 0) ∙ omega (arith, carried_parity q n h)))

  pub column_cleared : (u v : List ℕ) (c m : ℕ) → v ≡ put u c (zeros m) → c ≡ column_at q n → m ≡ column_length q → u ≡ put t (revision_at n) (zeros (4 * carried q n))
      → v ≡ put_column q n (zeros (4 * carried q n)) (zeros (column_length q)) t
  unfolding put_column
  column_cleared u v c m e hc hm f = e ∙ ap₂ (λ (x y : ℕ). put u x (zeros y)) hc hm ∙ ap (λ (x : List ℕ). put x (column_at q n) (zeros (column_length q))) f

  pub strips_room : (u : List ℕ) (c m : ℕ) → c ≡ column_at q n → m ≡ column_length q → u ≡ put t (revision_at n) (zeros (4 * carried q n)) → c + m ≤ length u
  strips_room u c m hc hm f =
      omega (arith, column_in q n K.below, ap length f ∙ length_revised q n (zeros (4 * carried q n)) (zeros (column_length q)) K.below (length_tab (4 * carried q n) (λ o. 0)) (length_tab (column_length q) (λ o. 0)) t K.room)
