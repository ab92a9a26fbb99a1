-- A row in the first places, and after it what it takes of the present data.
-- Assumes nothing.
use Prim.Native.Nat.{ℕ, zero, suc, ◌+◌, ◌-◌, ◌^◌, ◌<◌}
use mathlib.Core.List.{List, [], ◌∷◌, ◌++◌, map}
use mathlib.Core.Path.{◌≡◌, refl, sym, ap, ap₂, ◌∙◌}
use native.Mathlib.Omega.{arith}
use lib.ListN.{length, get_or, take, drop, length-append, length-drop, length-map}
use lib.Seq.{drop_at, ext_get_or, length-take-le, take_at}
use borrow.Rule.Slice.PartMut.{put_mid}
use Rattle.laws.proofs.Tab.{length_table, map_at}
use Rattle.laws.specs.Part.{tab, table}
use Rattle.laws.specs.Xor.{◌⊕◌}
use Rattle.algebra.proofs.Bounds.{entry_lt, row_lt}
use Rattle.algebra.proofs.Composed.{composed_length}
use Rattle.algebra.specs.Cauchy.{Off}
use Rattle.algebra.specs.Lane.{Apart}
use Rattle.algebra.specs.Recovery.{composed_of, entry_of, row_of, with, words_of}
use Rattle.algebra.specs.Word.{inverse_of}
use Rattle.solver.proofs.Lists.{tail_part, tail_put}
use Rattle.solver.proofs.Pass.{cross_off}
use Rattle.solver.specs.System.{Row, Words}
use Rattle.recovery.specs.Inner.{Direct, Extended, Solvable, Sourced}
use Rattle.recovery.specs.Words.{data_words, matrix_row, parity_row, parity_words, row_words}

-- ---- the loop, over the parts of both slices

module _ (p : ℕ) (from s : List ℕ) (g : ℕ) (E : Extended p from g s) (xs zs row : List ℕ) (x : xs ≡ take g from) (z : zs ≡ drop g from) (r : row ≡ take g s) where
  pub extend_row : (i : ℕ) → i + g < length s → Row p (get_or zs i 0) xs row
  extend_row i h =
      rw (x, z, r)
      (record {
        same = length-take-le g from (omega (arith, E.same, E.short)) ∙ sym (length-take-le g s E.short);
        off = cross_off p (drop g from) (take g from) i E.cross (omega (arith, length-drop g from, E.same));
        words = E.words;
      })

  pub extend_end : (rest : List ℕ) → length rest + g ≡ length s → ((k : ℕ) → k < length rest → get_or rest k 0 ≡ row_of p (get_or zs k 0) xs row)
      → row ++ rest ≡ row_words p (take g from) (drop g from) (take g s)
  unfolding row_words
  extend_end rest l h =
      let F : ℕ → ℕ = λ y. row_of p y xs row in
      let m : length zs ≡ length rest = ap length z ∙ omega (arith, length-drop g from, E.same) in
      ap (λ (t : List ℕ). row ++ t)
      (ext_get_or 0 rest (map F zs) (sym m ∙ sym (length-map zs F)) (λ k b. h k b ∙ sym (map_at F zs 0 k (omega arith))))
      ∙ rw (x, z, r) refl

-- ---- the words of a lost column

words_table : (p g : ℕ) (f : ℕ → ℕ) → ((v : ℕ) → f v < 2 ^ p) → Words p (table g f)
words_table p zero f h = tt
words_table p (suc g) f h = (h 0, words_table p g (λ v. f (suc v)) (λ v. h (suc v)))

words_tab : (p g : ℕ) (f : ℕ → ℕ) → ((v : ℕ) → f v < 2 ^ p) → Words p (tab g f)
unfolding tab
words_tab p zero f h = tt
words_tab p (suc g) f h = (h 0, words_tab p g (λ v. f (suc v)) (λ v. h (suc v)))

pub length_with : (a b : List ℕ) → length b ≡ length a → length (with ◌⊕◌ a b) ≡ length a
length_with [] b e = refl
length_with (x ∷ a) [] e = e
length_with (x ∷ a) (y ∷ b) e = ap suc (length_with a b (omega arith))

pub length_matrix_row : (p : ℕ) (xs ys : List ℕ) (u : ℕ) → length (matrix_row p xs ys u) ≡ length ys
unfolding matrix_row
length_matrix_row p xs ys u = length_table (length ys) (λ v. entry_of p xs ys u v)

pub length_parity_row : (p : ℕ) (xs ys : List ℕ) (j : ℕ) → length (parity_row p xs ys j) ≡ length ys
unfolding parity_row
length_parity_row p xs ys j = composed_length p j ys (length ys) (table (length ys) (matrix_row p xs ys))

module _ (p : ℕ) (from ys s : List ℕ) (E : Sourced p from ys s) where
  length_lent : length (take (length ys) s) ≡ length ys
  length_lent = length-take-le (length ys) s E.short

  pub row_asked : Solvable p (take (length ys) from) ys (take (length ys) s)
  row_asked = record {
    same_x = length-take-le (length ys) from (omega (arith, E.same, E.short)) ∙ sym length_lent;
    same_y = sym length_lent;
    distinct_x = E.distinct_x;
    distinct_y = E.distinct_y;
    cross = E.cross_lost;
  }

  pub row_number : (u : ℕ) → u < length ys → u < length (take (length ys) s)
  row_number u h = omega (arith, length_lent)

  -- any row ms, where w is what the first places have now
  module _ (ms : List ℕ) (n : length ms ≡ length ys) (low : Words p ms) where
    abbrev w : List ℕ
    w = ms ++ drop (length ys) s

    length_put : length w ≡ length s
    length_put = length-append ms (drop (length ys) s) ∙ omega (arith, length-drop (length ys) s, E.short)

    front_put : take (length ys) w ≡ ms
    front_put = take_at ms (drop (length ys) s) (length ys) n

    row_extended : Extended p from (length ys) w
    row_extended = record {
      same = E.same ∙ sym length_put;
      short = omega (arith, length_put, E.short);
      cross = E.cross_present;
      words = rw front_put low;
    }

  -- the row of a lost data column
  module _ (u : ℕ) (ms : List ℕ) (e : ms ≡ matrix_row p (take (length ys) from) ys u) where
    data_length : length ms ≡ length ys
    data_length = ap length e ∙ length_matrix_row p (take (length ys) from) ys u

    data_low : Words p ms
    unfolding matrix_row
    data_low = rw e (words_table p (length ys) (λ v. entry_of p (take (length ys) from) ys u v) (entry_lt p (take (length ys) from) ys u))

    pub data_extended : Extended p from (length ys) (ms ++ drop (length ys) s)
    data_extended = row_extended ms data_length data_low

    pub data_are : (t : List ℕ) → t ≡ row_words p (take (length ys) from) (drop (length ys) from) (take (length ys) (ms ++ drop (length ys) s))
        → t ≡ data_words p (take (length ys) from) ys (drop (length ys) from) u
    unfolding data_words
    data_are t f =
        f ∙ ap (row_words p (take (length ys) from) (drop (length ys) from))
        (front_put ms data_length data_low ∙ e)

  -- the row of a parity column, and then t, its words without what it takes by itself
  module _ (j : ℕ) (ms : List ℕ) (e : ms ≡ parity_row p (take (length ys) from) ys j) where
    parity_length : length ms ≡ length ys
    parity_length = ap length e ∙ length_parity_row p (take (length ys) from) ys j

    parity_low : Words p ms
    unfolding parity_row composed_of
    parity_low = rw e (words_tab p (length ys) _ (λ c. row_lt p j ys _))

    pub parity_extended : Extended p from (length ys) (ms ++ drop (length ys) s)
    parity_extended = row_extended ms parity_length parity_low

    module _ (t : List ℕ) (f : t ≡ row_words p (take (length ys) from) (drop (length ys) from) (take (length ys) (ms ++ drop (length ys) s))) where
      abbrev sums : List ℕ
      sums = words_of p (take (length ys) from) ms (drop (length ys) from)

      both : t ≡ ms ++ sums
      unfolding row_words
      both = rw (front_put ms parity_length parity_low) at f

      length_sums : length sums ≡ length (drop (length ys) from)
      length_sums = length-map (drop (length ys) from) (λ (z : ℕ). row_of p z (take (length ys) from) ms)

      rest : take (length t - length ys) (drop (length ys) t) ≡ sums
      rest = tail_part t (length ys) ∙ ap (drop (length ys)) both ∙ drop_at ms sums (length ys) parity_length

      pub parity_direct : Off (Apart p) j (drop (length ys) from)
          → Direct p j (take (length from - length ys) (drop (length ys) from)) (take (length t - length ys) (drop (length ys) t))
      parity_direct o = rw (tail_part from (length ys), rest) (record { same = sym length_sums; off = o })

      pub parity_are : (v : List ℕ)
          → v ≡ with ◌⊕◌ (take (length t - length ys) (drop (length ys) t)) (map (inverse_of p j) (take (length from - length ys) (drop (length ys) from)))
          → put_mid (length ys) (length t - length ys) t v ≡ parity_words p (take (length ys) from) ys (drop (length ys) from) j
      unfolding parity_words
      parity_are v h =
          let zs : List ℕ = drop (length ys) from in
          tail_put t v (length ys)
          ∙ ap₂ ◌++◌ (ap (take (length ys)) both ∙ take_at ms sums (length ys) parity_length) (h ∙ ap₂ (λ (a b : List ℕ). with ◌⊕◌ a (map (inverse_of p j) b)) rest (tail_part from (length ys)))
          ∙ ap (λ (l : List ℕ). l ++ with ◌⊕◌ (words_of p (take (length ys) from) l zs) (map (inverse_of p j) zs)) e
