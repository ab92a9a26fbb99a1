-- The list of a pattern's columns, read as the word of a command, is the pattern again.
-- Assumes nothing.
use Prim.Native.Nat.{ℕ, zero, suc, ◌+◌, ◌%◌, ◌^◌, ◌<◌, ◌≤◌, min}
use Rattle.std.proofs.Common.{Option, Some, None}
use mathlib.Core.Bool.{Bool, true, false, ◌&&◌, false≢true}
use mathlib.Core.List.{List, [], ◌∷◌, ◌++◌, append-nil}
use mathlib.Core.Logic.{◌⊎◌, inl, inr}
use mathlib.Core.Path.{◌≡◌, refl, sym, ap, subst, ◌∙◌}
use native.Mathlib.Decide.{ℕ_discrete, dec_lt}
use native.Mathlib.Numerals.{add-one}
use native.Mathlib.Omega.{arith}
use lib.Dec.{eqb, leb, ltb, T}
use lib.ListN.{length, get_or}
use borrow.Author.Tests.{eq-eqb, ne_eqb, eqb-true, leb-true, lt-ltb, le-ltb}
use Rattle.laws.proofs.Bit.{bit_digit, bit_pack, pack_bits, pack_ext, pack_zero}
use Rattle.laws.proofs.Choose.{below_at, T_true, true_T, and_left, and_right}
use Rattle.laws.specs.Bit.{bit, pack}
use Rattle.laws.specs.Choose.{choose, below}
use Rattle.laws.specs.Sum.{total}
use Rattle.texts.specs.Text.{text, places}
use Rattle.words.proofs.Cutting.{parts_some}
use Rattle.words.proofs.Listing.{some_listed}
use Rattle.words.specs.Columns.{columns_of, named, then_named, with_column}
use Rattle.words.specs.Decimal.{decimal_of, is_numeral, all_digits, is_digit, spelled}
use Rattle.words.specs.Words.{parts, before_first}
use Rattle.answers.specs.List.{is_none, comma, next_text, columns_below, list_of}

-- ---- the pattern of the columns below n

so_far : ℕ → ℕ → ℕ
so_far w n = pack 64 (λ i. choose (ltb i n) (bit w i) 0)

none_so_far : (w : ℕ) → so_far w 0 ≡ 0
unfolding so_far
none_so_far w = pack_ext 64 (λ i. choose (ltb i 0) (bit w i) 0) (λ i. 0) (λ q l. ap (λ (b : Bool). choose b (bit w q) 0 % 2) (le-ltb q 0 (omega arith))) ∙ pack_zero 64

all_so_far : (w : ℕ) → w < 2 ^ 64 → so_far w 64 ≡ w
unfolding so_far
all_so_far w h = pack_ext 64 (λ i. choose (ltb i 64) (bit w i) 0) (bit w) (λ q l. ap (λ (b : Bool). choose b (bit w q) 0 % 2) (lt-ltb q 64 l)) ∙ pack_bits 64 w h

-- another place is below n + 1 exactly where it is below n
other_place : (q n : ℕ) → (q ≡ n → ⊥) → ltb q n ≡ ltb q (n + 1)
other_place q n h =
    elim (dec_lt q n) [
      | yes l ↦ lt-ltb q n l ∙ sym (lt-ltb q (n + 1) (omega arith))
      | no l ↦ le-ltb q n (omega arith) ∙ sym (le-ltb q (n + 1) (omega arith))
    ]

module _ (w n : ℕ) where
  same_so_far : (bit w n ≡ 1 → ⊥) → so_far w n ≡ so_far w (n + 1)
  unfolding so_far
  same_so_far h = pack_ext 64 (λ i. choose (ltb i n) (bit w i) 0) (λ i. choose (ltb i (n + 1)) (bit w i) 0) (λ q l. go q (ℕ_discrete q n))
    where
      go : (q : ℕ) → Dec (q ≡ n) → choose (ltb q n) (bit w q) 0 % 2 ≡ choose (ltb q (n + 1)) (bit w q) 0 % 2
      go q (yes e) =
          let z : bit w q ≡ 0 = omega (arith, bit_digit w q, ap (bit w) e, h) in
          rw (le-ltb q n (omega arith), lt-ltb q (n + 1) (omega arith), z)
      go q (no e) = ap (λ (b : Bool). choose b (bit w q) 0 % 2) (other_place q n e)

  more_so_far : n < 64 → bit w n ≡ 1 → with_column (so_far w n) n ≡ so_far w (n + 1)
  unfolding so_far with_column
  more_so_far h o =
      pack_ext 64 (λ i. choose (eqb i (min n 63)) 1 (bit (so_far w n) i)) (λ i. choose (ltb i (n + 1)) (bit w i) 0) (λ q l. go q l (ℕ_discrete q n))
    where
      go : (q : ℕ) → q < 64 → Dec (q ≡ n) → choose (eqb q (min n 63)) 1 (bit (so_far w n) q) % 2 ≡ choose (ltb q (n + 1)) (bit w q) 0 % 2
      go q l (yes e) = rw (eq-eqb q (min n 63) (omega arith), lt-ltb q (n + 1) (omega arith), ap (bit w) e ∙ o)
      go q l (no e) =
          let f : q ≡ min n 63 → ⊥ = λ g. e (omega arith) in
          rw (ne_eqb q (min n 63) f, bit_pack 64 (λ i. choose (ltb i n) (bit w i) 0) q l, sym (other_place q n e)) (omega arith)

-- ---- one column

digit_low : (c : ℕ) → is_digit c ≡ true → 48 ≤ c
digit_low c e = leb-true 48 c (T_true (leb 48 c) (and_left (leb 48 c) (leb c 57) (true_T (leb 48 c && leb c 57) e)))

zero_no_digit : is_digit 0 ≡ true → ⊥
zero_no_digit e = let l : 48 ≤ 0 = digit_low 0 e in omega arith

one_part : (v : List ℕ) → all_digits v ≡ true → parts 44 v ≡ v ∷ []
unfolding parts before_first all_digits
one_part [] e = refl
one_part (c ∷ v) e =
    let t = true_T (is_digit c && all_digits v) e in
    let l : 48 ≤ c = digit_low c (T_true (is_digit c) (and_left (is_digit c) (all_digits v) t)) in
    rw (ne_eqb c 44 (λ z. omega arith), one_part v (T_true (all_digits v) (and_right (is_digit c) (all_digits v) t)))

numeral_starts : (v : List ℕ) → is_numeral v ≡ true → (is_digit (get_or v 0 0) ≡ true) × (all_digits v ≡ true)
unfolding is_numeral all_digits
numeral_starts [] e = absurd (false≢true e)
numeral_starts (c ∷ v) e = (T_true (is_digit c) (and_left (is_digit c) (all_digits v) (true_T (is_digit c && all_digits v) e)), e)

numerals : T (below 64 (λ i. is_numeral (text i) && eqb (spelled 0 (text i)) i))
unfolding below text places total is_numeral all_digits spelled
numerals = tt

module _ (n : ℕ) (h : n < 64) where
  tested : T (is_numeral (text n) && eqb (spelled 0 (text n)) n)
  tested = below_at (λ i. is_numeral (text i) && eqb (spelled 0 (text i)) i) 64 numerals n h

  column_numeral : is_numeral (text n) ≡ true
  column_numeral = T_true (is_numeral (text n)) (and_left (is_numeral (text n)) (eqb (spelled 0 (text n)) n) tested)

  column_read : decimal_of (text n) ≡ Some n
  unfolding decimal_of
  column_read =
      let e : spelled 0 (text n) ≡ n = eqb-true (spelled 0 (text n)) n (T_true (eqb (spelled 0 (text n)) n) (and_right (is_numeral (text n)) (eqb (spelled 0 (text n)) n) tested)) in
      rw (column_numeral, e) (rw (lt-ltb n (2 ^ 64) (omega arith)))

-- ---- words one behind the other

parts_behind : (s v : List ℕ) → parts 44 (s ++ (44 ∷ v)) ≡ parts 44 s ++ parts 44 v
unfolding parts before_first
parts_behind [] v = refl
parts_behind (c ∷ s) v = rw (parts_behind s v) (go (eqb c 44) (parts 44 s) (parts_some 44 s))
  where
    go : (t : Bool) (ws : List (List ℕ)) → 1 ≤ length ws
        → choose t ([] ∷ (ws ++ parts 44 v)) (before_first c (ws ++ parts 44 v)) ≡ choose t ([] ∷ ws) (before_first c ws) ++ parts 44 v
    go true ws h = refl
    go false [] h = absurd (omega arith)
    go false (x ∷ ws) h = refl

named_behind : (ws vs : List (List ℕ)) (w u : ℕ) → named ws w ≡ Some u → named (ws ++ vs) w ≡ named vs u
unfolding named
named_behind [] vs w u e = let f : w ≡ u = cc in rw f
named_behind (x ∷ ws) vs w u e = go (decimal_of x) (λ z. named_behind ws vs z u) e
  where
    go : (v : Option ℕ) → ((z : ℕ) → named ws z ≡ Some u → named (ws ++ vs) z ≡ named vs u)
        → then_named v (λ n. named ws (with_column w n)) ≡ Some u → then_named v (λ n. named (ws ++ vs) (with_column w n)) ≡ named vs u
    go (Some n) r f = r (with_column w n) f
    go None r f = cc

one_named : (n w : ℕ) → n < 64 → named (parts 44 (text n)) w ≡ Some (with_column w n)
unfolding named
one_named n w h = rw (one_part (text n) (numeral_starts (text n) (column_numeral n h)).1) (rw (column_read n h))

-- ---- the list so far: nothing, or a word that begins with a digit and names the columns of u

record Reads (s : List ℕ) (u : ℕ) : Type 0 where
  starts : is_digit (get_or s 0 0) ≡ true
  reads : named (parts 44 s) 0 ≡ Some u

abbrev SoFar : List ℕ → ℕ → Type 0
SoFar s u = ((s ≡ []) × (u ≡ 0)) ⊎ Reads s u

-- a column more
grow : (s : List ℕ) (u n : ℕ) → n < 64 → SoFar s u → Reads (s ++ (comma (is_none s) ++ text n)) (with_column u n)
grow s u n h (inl (e, f)) = rw (e, f) (record { starts = (numeral_starts (text n) (column_numeral n h)).0; reads = one_named n 0 h })
grow [] u n h (inr r) = record { starts = (numeral_starts (text n) (column_numeral n h)).0; reads = absurd (zero_no_digit r.starts) }
grow (c ∷ s) u n h (inr r) =
    record {
      starts = r.starts;
      reads =
          ap (λ (ws : List (List ℕ)). named ws 0) (parts_behind (c ∷ s) (text n)) ∙ named_behind (parts 44 (c ∷ s)) (parts 44 (text n)) 0 u r.reads ∙ one_named n u h;
    }

next_so_far : (w n : ℕ) → n < 64 → SoFar (columns_below w n) (so_far w n) → SoFar (columns_below w (n + 1)) (so_far w (n + 1))
unfolding columns_below next_text
next_so_far w n h r =
    elim (ℕ_discrete (bit w n) 1) [
      | yes e ↦ rw (add-one n, eq-eqb (bit w n) 1 e) (inr (subst (Reads (columns_below w n ++ (comma (is_none (columns_below w n)) ++ text n))) (more_so_far w n h e ∙ ap (so_far w) (add-one n)) (grow (columns_below w n) (so_far w n) n h r)))
      | no e ↦ rw (add-one n, ne_eqb (bit w n) 1 e, append-nil (columns_below w n)) (subst (SoFar (columns_below w n)) (same_so_far w n e ∙ ap (so_far w) (add-one n)) r)
    ]

every_so_far : (w n : ℕ) → n ≤ 64 → SoFar (columns_below w n) (so_far w n)
unfolding columns_below
every_so_far w zero h = inl (refl, none_so_far w)
every_so_far w (suc n) h = subst (λ (m : ℕ). SoFar (columns_below w m) (so_far w m)) (add-one n) (next_so_far w n (omega arith) (every_so_far w n (omega arith)))

-- ---- the word of a pattern of 64 bits

word_read : (s : List ℕ) (u : ℕ) → Reads s u → Some u ≡ columns_of s
word_read [] u r = absurd (zero_no_digit r.starts)
word_read (c ∷ s) u r =
    let n : c ≡ 45 → ⊥ = λ e. omega (arith, digit_low c r.starts) in
    sym r.reads ∙ some_listed (c ∷ s) (λ z. omega arith) (rw (ne_eqb c 45 n))

pub list_read : (w : ℕ) → w < 2 ^ 64 → columns_of (list_of w) ≡ Some w
unfolding list_of
list_read w h =
    elim (ℕ_discrete w 0) [
      | yes e ↦ rw e
      | no e ↦ rw (ne_eqb w 0 e) (go e (every_so_far w 64 (omega arith)))
    ]
  where
    go : (w ≡ 0 → ⊥) → SoFar (columns_below w 64) (so_far w 64) → columns_of (columns_below w 64) ≡ Some w
    go e (inl (f, g)) = absurd (e (sym (all_so_far w h) ∙ g))
    go e (inr r) = sym (word_read (columns_below w 64) (so_far w 64) r) ∙ ap (λ (v : ℕ). Some v) (all_so_far w h)
