-- Laws of the list of a pattern's columns.
-- Assumes nothing.
use Prim.Native.Nat.{ℕ, zero, suc, ◌+◌, ◌*◌, ◌/◌, ◌%◌, ◌^◌, ◌<◌, ◌≤◌}
use mathlib.Core.Bool.{Bool, true, false}
use mathlib.Core.List.{List, [], ◌∷◌, ◌++◌, append-nil, append_assoc}
use mathlib.Core.Logic.{◌≢◌}
use mathlib.Core.Path.{◌≡◌, refl, sym, ap}
use native.Mathlib.Numerals.{add-one}
use native.Mathlib.Omega.{arith}
use lib.Dec.{eqb, leb, T}
use lib.ListN.{length, length-append}
use borrow.Author.Tests.{eq-eqb, ne_eqb, leb-true}
use Rattle.laws.proofs.Choose.{below_at, T_true}
use Rattle.laws.specs.Bit.{bit}
use Rattle.laws.specs.Choose.{choose, below}
use Rattle.laws.specs.Sum.{total}
use Rattle.std.proofs.lemmas.Fmt.{decimal_nonempty}
use Rattle.texts.proofs.Digits.{decimal_text}
use Rattle.texts.specs.Text.{bytes, text, places}
use Rattle.answers.specs.List.{is_none, comma, next_text, columns_below, list_of}

-- ---- a column has two digits at most, and one at least

short_texts : T (below 64 (λ i. leb (length (text i)) 2))
unfolding below text places total
short_texts = tt

text_short : (i : ℕ) → i < 64 → length (text i) ≤ 2
text_short i h = leb-true (length (text i)) 2 (T_true (leb (length (text i)) 2) (below_at (λ j. leb (length (text j)) 2) 64 short_texts i h))

text_some : (i : ℕ) → i < 64 → 0 < length (text i)
text_some i h = omega (arith, ap length (decimal_text i (omega arith)), decimal_nonempty i (omega arith))

-- ---- a list is no longer than three bytes a column

next_short : (w i : ℕ) (first : Bool) → i < 64 → length (next_text w i first) ≤ 3
unfolding next_text
next_short w i first h = go (eqb (bit w i) 1) first
  where
    go : (b c : Bool) → length (choose b (comma c ++ text i) []) ≤ 3
    go true true = omega (arith, text_short i h)
    go true false = omega (arith, text_short i h)
    go false c = omega arith

pub columns_short : (w n : ℕ) → n ≤ 64 → length (columns_below w n) ≤ 3 * n
unfolding columns_below
columns_short w zero h = omega arith
columns_short w (suc n) h =
    let first = is_none (columns_below w n) in
    omega (arith, length-append (columns_below w n) (next_text w n first), columns_short w n (omega arith), next_short w n first (omega arith))

comma_short : (first : Bool) → length (comma first) ≤ 1
comma_short true = omega arith
comma_short false = omega arith

-- t is a line so far, s what stands before its list, and u what stands before the next column
pub next_fits : (w n : ℕ) (s t u : List ℕ) → n < 64 → length s ≤ 40 → t ≡ s ++ columns_below w n → u ≡ comma (is_none (columns_below w n)) → length t + length u ≤ 230
next_fits w n s t u h l e f =
    omega (arith, ap length e, ap length f, length-append s (columns_below w n), columns_short w n (omega arith), comma_short (is_none (columns_below w n)))

longer_some : (u v : List ℕ) → 0 < length v → is_none (u ++ v) ≡ false
longer_some [] [] h = absurd (omega arith)
longer_some [] (c ∷ v) h = refl
longer_some (c ∷ u) v h = refl

-- ---- one column more

module _ (w n : ℕ) where
  -- a column that is in the pattern
  module _ (here : w / 2 ^ n % 2 ≡ 1) (small : n < 64) where
    -- s stands before the list
    pub one_more : (s v : List ℕ) → v ≡ comma (is_none (columns_below w n)) → ((s ++ columns_below w n) ++ v) ++ text n ≡ s ++ columns_below w (n + 1)
    unfolding columns_below next_text bit
    one_more s v e = rw (add-one n, eq-eqb (w / 2 ^ n % 2) 1 here, e) (simp append_assoc)

    pub comma_next : bytes "," ≡ comma (is_none (columns_below w (n + 1)))
    unfolding columns_below next_text bit
    comma_next =
        let f = comma (is_none (columns_below w n)) in
        let l = longer_some (columns_below w n) (f ++ text n) (omega (arith, length-append f (text n), text_some n small)) in
        rw (add-one n, eq-eqb (w / 2 ^ n % 2) 1 here, l) refl

  -- one that is not
  pub none_more : w / 2 ^ n % 2 ≢ 1 → columns_below w n ≡ columns_below w (n + 1)
  unfolding columns_below next_text bit
  none_more h = rw (add-one n, ne_eqb (w / 2 ^ n % 2) 1 h) (sym (append-nil (columns_below w n)))

-- the whole list
pub no_columns : (w : ℕ) → w ≡ 0 → bytes "-" ≡ list_of w
unfolding list_of
no_columns w e = rw (eq-eqb w 0 e) refl

pub all_columns : (w n : ℕ) → n ≤ 64 → 64 ≤ n → w ≢ 0 → columns_below w n ≡ list_of w
unfolding list_of
all_columns w n l m h = let e : n ≡ 64 = omega arith in rw (e, ne_eqb w 0 h) refl
