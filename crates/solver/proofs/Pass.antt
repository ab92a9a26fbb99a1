-- What the loops of the solver owe, over plain lists.
-- Assumes nothing.
use Prim.Native.Nat.{ℕ, zero, suc, ◌+◌, ◌-◌, ◌^◌, ◌<◌, ◌≤◌}
use mathlib.Core.List.{List, [], ◌∷◌, ◌++◌, append-nil}
use mathlib.Core.Path.{◌≡◌, refl, sym, ap, ap₂, subst, ◌∙◌}
use native.Mathlib.Nat.{not-suc-le-zero}
use native.Mathlib.Omega.{arith}
use lib.Bits.{bit_xor, xor_lt}
use lib.ListN.{length, get_or, set, take, drop, drop_of_length-le, length-drop, length-append, get_or-append}
use lib.Seq.{drop-cons, take-suc, take_all, take_at, drop_at, append_snoc, length-take-le, get_or-take, take-take, set_at}
use borrow.Rule.Slice.PartMut.{put_mid}
use Rattle.laws.proofs.Patch.{patch_none}
use Rattle.laws.proofs.Xor.{⊕_assoc, ⊕_zero, zero_⊕}
use Rattle.laws.specs.Patch.{Patched}
use Rattle.laws.specs.Xor.{◌⊕◌}
use Rattle.algebra.proofs.Bounds.{row_lt}
use Rattle.algebra.proofs.Passes.{two_passes}
use Rattle.algebra.proofs.Prime.{prime_three}
use Rattle.algebra.proofs.Words.{over_back, over_lt, times_lt, times_past}
use Rattle.algebra.specs.Cauchy.{Off, Distinct, Cross}
use Rattle.algebra.specs.Lane.{Apart}
use Rattle.algebra.specs.Prime.{Modulus}
use Rattle.algebra.specs.Recovery.{cleared_of, settled_of, less_of, back_of, row_of, down_of, up_of, solve_of}
use Rattle.algebra.specs.Word.{times_of, over_of}
use Rattle.ring.specs.Ring.{Divisible}
use Rattle.solver.proofs.Lists.{words_at, words_take, words_drop, words_join, zip, zip_at, words_zip, zip_end, zip_more, tail_part, tail_put, drop_next, length_zip}
use Rattle.solver.specs.System.{Row, System, rise_of, Words}

-- ---- one word

pub times_small : (p a b w x : ℕ) → x ≡ times_of p a b w → x < 2 ^ p
times_small p a b w x e = subst (λ (y : ℕ). y < 2 ^ p) (sym e) (times_lt p a b w)

pub cleared_is : (p x1 y1 w1 x w u v r : ℕ) → u ≡ times_of p x y1 w → v ≡ times_of p x1 y1 w1 → r ≡ over_of p x1 x (bit_xor u v) → r ≡ cleared_of p x1 y1 w1 x w
unfolding cleared_of ◌⊕◌
cleared_is p x1 y1 w1 x w u v r e f g = g ∙ ap₂ (λ (a b : ℕ). over_of p x1 x (bit_xor a b)) e f

pub sum_divisible : (p a b c d w c' d' w' z u v : ℕ) → Divisible p a b z → u ≡ times_of p c d w → v ≡ times_of p c' d' w' → Divisible p a b (bit_xor u v)
sum_divisible p a b c d w c' d' w' z u v h e f = record {
  exponents = h.exponents;
  word = xor_lt p u v (times_small p c d w u e) (times_small p c' d' w' v f);
}

pub ruleset clearing = (sum_divisible, cleared_is)

-- ---- lessen, settle

pub less_zip : (p x y P : ℕ) (xs l : List ℕ) → zip (cleared_of p x y P) xs l ≡ less_of p x y P xs l
unfolding less_of cleared_of
less_zip p x y P [] l = refl
less_zip p x y P (w ∷ xs) [] = refl
less_zip p x y P (w ∷ xs) (v ∷ l) = ap (λ (k : List ℕ). cleared_of p x y P w v ∷ k) (less_zip p x y P xs l)

pub back_zip : (p x y : ℕ) (ys l : List ℕ) → zip (settled_of p x y) ys l ≡ back_of p x y ys l
unfolding back_of settled_of
back_zip p x y [] l = refl
back_zip p x y (w ∷ ys) [] = refl
back_zip p x y (w ∷ ys) (v ∷ l) = ap (λ (k : List ℕ). settled_of p x y w v ∷ k) (back_zip p x y ys l)

pub less_end : (p x y P : ℕ) (xs s t : List ℕ) (m : ℕ) → Row p x xs s → Patched s t 0 m (zip_at (cleared_of p x y P) xs s) → m ≤ length s → length s ≤ m
    → t ≡ less_of p x y P xs s
less_end p x y P xs s t m r d h k = zip_end (cleared_of p x y P) xs s t m d r.same h k ∙ less_zip p x y P xs s

pub back_end : (p x y : ℕ) (ys s t : List ℕ) (m : ℕ) → Row p y ys s → Patched s t 0 m (zip_at (settled_of p x y) ys s) → m ≤ length s → length s ≤ m
    → t ≡ back_of p x y ys s
back_end p x y ys s t m r d h k = zip_end (settled_of p x y) ys s t m d r.same h k ∙ back_zip p x y ys s

pub off_at : (p x : ℕ) (ys : List ℕ) (k : ℕ) → Off (Apart p) x ys → k < length ys → Apart p x (get_or ys k 0)
off_at p x [] k h l = absurd (not-suc-le-zero l)
off_at p x (y ∷ ys) zero h l = h.0
off_at p x (y ∷ ys) (suc k) h l = off_at p x ys k h.1 (omega arith)

patched_word : (p : ℕ) (s t : List ℕ) (m : ℕ) (f : ℕ → ℕ) → Words p s → Patched s t 0 m f → get_or t m 0 < 2 ^ p
patched_word p s t m f h d = subst (λ (x : ℕ). x < 2 ^ p) (sym (d.above m (omega arith))) (words_at p s h m)

pub patched_divisible : (p x m : ℕ) (xs s t : List ℕ) (f : ℕ → ℕ) → Modulus p → Row p x xs s → Patched s t 0 m f → m < length s
    → Divisible p x (get_or xs m 0) (get_or t m 0)
patched_divisible p x m xs s t f M r d h = record {
  exponents = record { modulus = M; apart = off_at p x xs m r.off (omega (arith, r.same, d.len)) };
  word = patched_word p s t m f r.words d;
}

pub ruleset lessening = (patch_none, patched_divisible, zip_more, less_end)

-- ---- row_sum

pub sum_start : (p x : ℕ) (ys s : List ℕ) → 0 ⊕ row_of p x (drop 0 ys) (drop 0 s) ≡ row_of p x ys s
sum_start p x ys s = zero_⊕ (row_of p x ys s)

row_cons : (p x : ℕ) (ys s : List ℕ) (m : ℕ) → m < length ys → m < length s
    → row_of p x (drop m ys) (drop m s) ≡ over_of p x (get_or ys m 0) (get_or s m 0) ⊕ row_of p x (drop (suc m) ys) (drop (suc m) s)
unfolding row_of
row_cons p x ys s m h k = ap₂ (row_of p x) (drop-cons ys m 0 h) (drop-cons s m 0 k)

pub row_more : (p x : ℕ) (ys s : List ℕ) (m a r : ℕ) → Row p x ys s → m < length s → a ⊕ row_of p x (drop m ys) (drop m s) ≡ row_of p x ys s
    → r ≡ over_of p x (get_or ys m 0) (get_or s m 0) → bit_xor a r ⊕ row_of p x (drop (m + 1) ys) (drop (m + 1) s) ≡ row_of p x ys s
unfolding ◌⊕◌
row_more p x ys s m a r R h e f =
    let z : m + 1 ≡ suc m = omega arith in
    ap₂ (λ (u k : ℕ). (a ⊕ u) ⊕ row_of p x (drop k ys) (drop k s)) f z
    ∙ ⊕_assoc a (over_of p x (get_or ys m 0) (get_or s m 0)) (row_of p x (drop (suc m) ys) (drop (suc m) s))
    ∙ ap (λ (u : ℕ). a ⊕ u) (sym (row_cons p x ys s m (omega (arith, R.same)) h)) ∙ e

pub row_end : (p x : ℕ) (ys s : List ℕ) (m a : ℕ) → Row p x ys s → m ≤ length s → length s ≤ m → a ⊕ row_of p x (drop m ys) (drop m s) ≡ row_of p x ys s
    → a ≡ row_of p x ys s
unfolding row_of
row_end p x ys s m a R h k e =
    sym (⊕_zero a) ∙ ap (λ (l : List ℕ). a ⊕ row_of p x l (drop m s)) (sym (drop_of_length-le ys {i = m} (omega (arith, R.same)))) ∙ e

pub row_divisible : (p x : ℕ) (ys s : List ℕ) (m : ℕ) → Modulus p → Row p x ys s → m < length s → Divisible p x (get_or ys m 0) (get_or s m 0)
row_divisible p x ys s m M r h = record {
  exponents = record { modulus = M; apart = off_at p x ys m r.off (omega (arith, r.same)) };
  word = words_at p s r.words m;
}

pub ruleset summing = (sum_start, row_divisible, row_more, row_end)

-- ---- settle: the quotient by y of each word of s, multiplied by x, in its place in t, and all quotients added up

times_settled : (p x y z w : ℕ) → Modulus p → times_of p x z (over_of p y z w) ≡ settled_of p x y z w
unfolding settled_of
times_settled zero x y z w M = absurd (omega (arith, prime_three 0 M.prime))
times_settled (suc n) x y z w M = times_past n x z y z w

-- the quotient of a settled word is that of the word
settled_over : (p x y z w : ℕ) → Modulus p → Apart p x z → Apart p y z → over_of p x z (settled_of p x y z w) ≡ over_of p y z w
unfolding settled_of
settled_over zero x y z w M d e = absurd (omega (arith, prime_three 0 M.prime))
settled_over (suc n) x y z w M d e = over_back n x y z w M.small M.prime d e

back_row : (p x y : ℕ) (ys s : List ℕ) → Modulus p → Off (Apart p) x ys → Off (Apart p) y ys → row_of p x ys (back_of p x y ys s) ≡ row_of p y ys s
unfolding row_of back_of settled_of
back_row p x y [] s M o e = refl
back_row p x y (z ∷ ys) [] M o e = refl
back_row p x y (z ∷ ys) (w ∷ s) M o e = ap₂ ◌⊕◌ (settled_over p x y z w M o.0 e.0) (back_row p x y ys s M o.1 e.1)

pub part_in : (p y : ℕ) (ys s t : List ℕ) (m : ℕ) (f : ℕ → ℕ) → Row p y ys s → Patched s t 0 m f → m < length s → get_or ys m 0 ≤ p
part_in p y ys s t m f R d h = let a = off_at p y ys m R.off (omega (arith, R.same, d.len)) in omega (arith, a.1)

module _ (p x y : ℕ) (ys s t : List ℕ) (m : ℕ) (M : Modulus p) (R : Row p y ys s) (d : Patched s t 0 m (zip_at (settled_of p x y) ys s)) (h : m < length s)
    (r : ℕ) (e : r ≡ over_of p y (get_or ys m 0) (get_or t m 0)) where
  pub part_low : r < 2 ^ p
  part_low = subst (λ (z : ℕ). z < 2 ^ p) (sym e) (over_lt p y (get_or ys m 0) (get_or t m 0))

  pub settle_more : (u : ℕ) → u ≡ times_of p x (get_or ys m 0) r → Patched s (set t m u) 0 (m + 1) (zip_at (settled_of p x y) ys s)
  settle_more u f = zip_more (settled_of p x y) ys s t m u d h (f ∙ ap (times_of p x (get_or ys m 0)) e ∙ times_settled p x y (get_or ys m 0) (get_or t m 0) M)

  pub settle_sum : (a : ℕ) → a ⊕ row_of p y (drop m ys) (drop m s) ≡ row_of p y ys s → bit_xor a r ⊕ row_of p y (drop (m + 1) ys) (drop (m + 1) s) ≡ row_of p y ys s
  settle_sum a f = row_more p y ys s m a r R (omega (arith, d.len)) f (e ∙ ap (over_of p y (get_or ys m 0)) (d.above m (omega arith)))

pub settle_end : (p x y : ℕ) (ys s t : List ℕ) (m a : ℕ) (f : ℕ → ℕ) → Modulus p → Row p y ys s → Off (Apart p) x ys → Patched s t 0 m f → m ≤ length s → length s ≤ m
    → a ⊕ row_of p y (drop m ys) (drop m s) ≡ row_of p y ys s → a ≡ row_of p x ys (back_of p x y ys s)
settle_end p x y ys s t m a f M R o d h k e =
    row_end p y ys s m a R (omega (arith, d.len)) (omega (arith, d.len)) e ∙ sym (back_row p x y ys s M o R.off)

pub ruleset settling = (patch_none, sum_start, patched_divisible, part_in, part_low, settle_more, settle_sum, back_end, settle_end)

-- ---- the first pass

module _ (p : ℕ) where
  off_drop : (x : ℕ) (ys : List ℕ) (j : ℕ) → Off (Apart p) x ys → Off (Apart p) x (drop j ys)
  off_drop x ys zero h = h
  off_drop x [] (suc j) h = tt
  off_drop x (y ∷ ys) (suc j) h = off_drop x ys j h.1

  distinct_off : (ys : List ℕ) (k : ℕ) → Distinct (Apart p) ys → k < length ys → Off (Apart p) (get_or ys k 0) (drop (suc k) ys)
  distinct_off [] k h l = absurd (not-suc-le-zero l)
  distinct_off (y ∷ ys) zero h l = h.0
  distinct_off (y ∷ ys) (suc k) h l = distinct_off ys k h.1 (omega arith)

  pub cross_off : (xs ys : List ℕ) (k : ℕ) → Cross (Apart p) xs ys → k < length xs → Off (Apart p) (get_or xs k 0) ys
  cross_off [] ys k h l = absurd (not-suc-le-zero l)
  cross_off (x ∷ xs) ys zero h l = h.0
  cross_off (x ∷ xs) ys (suc k) h l = cross_off xs ys k h.1 (omega arith)

less_words : (p x y P : ℕ) (xs l : List ℕ) → Words p (less_of p x y P xs l)
unfolding cleared_of
less_words p x y P xs l = subst (Words p) (less_zip p x y P xs l) (words_zip p (cleared_of p x y P) xs l (λ z w. over_lt p x z _))

back_words : (p x y : ℕ) (ys l : List ℕ) → Words p (back_of p x y ys l)
unfolding settled_of
back_words p x y ys l = subst (Words p) (back_zip p x y ys l) (words_zip p (settled_of p x y) ys l (λ z w. over_lt p y z _))

down_cons : (p x y P : ℕ) (xs ys Ps : List ℕ) → down_of p (x ∷ xs) (y ∷ ys) (P ∷ Ps) ≡ P ∷ down_of p xs ys (less_of p x y P xs Ps)
unfolding down_of less_of
down_cons p x y P xs ys Ps = refl

pub record Descended (p : ℕ) (xs ys s t : List ℕ) (i : ℕ) : Type 0 where
  pub within : i ≤ length t
  pub len : length t ≡ length s
  pub words : Words p t
  pub left : take i t ++ down_of p (drop i xs) (drop i ys) (drop i t) ≡ down_of p xs ys s

module _ (p : ℕ) (xs ys s : List ℕ) (S : System p xs ys s) where
  pub descend_none : Descended p xs ys s s 0
  descend_none = record { within = omega arith; len = refl; words = S.words; left = refl }

  module _ (t : List ℕ) (i : ℕ) (len : length t ≡ length s) (h : i < length t) where
    x_in : get_or xs i 0 ≤ p
    x_in = let a = off_at p (get_or xs i 0) ys i (cross_off p xs ys i S.cross (omega (arith, S.same_x))) (omega (arith, S.same_y)) in omega (arith, a.0)

    y_in : get_or ys i 0 ≤ p
    y_in = let a = off_at p (get_or xs i 0) ys i (cross_off p xs ys i S.cross (omega (arith, S.same_x))) (omega (arith, S.same_y)) in omega (arith, a.1)

    row_x : Words p t → Row p (get_or xs i 0) (drop (suc i) xs) (drop (suc i) t)
    row_x w = record {
      same = omega (arith, length-drop (suc i) xs, length-drop (suc i) t, S.same_x);
      off = distinct_off p xs i S.distinct_x (omega (arith, S.same_x));
      words = words_drop p (suc i) t w;
    }

    row_y : Words p t → Row p (get_or ys i 0) (drop (suc i) ys) (drop (suc i) t)
    row_y w = record {
      same = omega (arith, length-drop (suc i) ys, length-drop (suc i) t, S.same_y);
      off = distinct_off p ys i S.distinct_y (omega (arith, S.same_y));
      words = words_drop p (suc i) t w;
    }

  pub descend_y : (t : List ℕ) (i : ℕ) → Descended p xs ys s t i → i < length t → get_or ys i 0 ≤ p
  descend_y t i d h = y_in t i d.len h

  pub descend_word : (t : List ℕ) (i : ℕ) → Descended p xs ys s t i → get_or t i 0 < 2 ^ p
  descend_word t i d = words_at p t d.words i

  pub descend_row : (t : List ℕ) (i : ℕ) → Descended p xs ys s t i → i < length t
      → Row p (get_or xs i 0) (take (length xs - (i + 1)) (drop (i + 1) xs)) (take (length t - (i + 1)) (drop (i + 1) t))
  descend_row t i d h =
      let z : suc i ≡ i + 1 = omega arith in
      subst (λ (a : ℕ). Row p (get_or xs i 0) (take (length xs - a) (drop a xs)) (take (length t - a) (drop a t))) z
      (rw (tail_part xs (suc i), tail_part t (suc i)) (row_x t i d.len h d.words))

  descend_step : (t : List ℕ) (i : ℕ) → Descended p xs ys s t i → i < length t
      → Descended p xs ys s (take (suc i) t ++ less_of p (get_or xs i 0) (get_or ys i 0) (get_or t i 0) (drop (suc i) xs) (drop (suc i) t)) (suc i)
  unfolding down_of
  descend_step t i d h =
      let x : ℕ = get_or xs i 0 in
      let y : ℕ = get_or ys i 0 in
      let P : ℕ = get_or t i 0 in
      let u : List ℕ = less_of p x y P (drop (suc i) xs) (drop (suc i) t) in
      let lt : length (take (suc i) t) ≡ suc i = length-take-le (suc i) t h in
      let lu : length u ≡ length t - suc i =
      ap length (sym (less_zip p x y P (drop (suc i) xs) (drop (suc i) t)))
      ∙ length_zip (cleared_of p x y P) (drop (suc i) xs) (drop (suc i) t) (row_x t i d.len h d.words).same ∙ length-drop (suc i) t in
      let la : length (take (suc i) t ++ u) ≡ length (take (suc i) t) + length u = length-append (take (suc i) t) u in
      record {
        within = omega arith;
        len = omega (arith, d.len);
        words = words_join p (take (suc i) t) u (words_take p (suc i) t d.words) (less_words p x y P (drop (suc i) xs) (drop (suc i) t));
        left =
            ap₂ (λ (a b : List ℕ). a ++ down_of p (drop (suc i) xs) (drop (suc i) ys) b) (take_at (take (suc i) t) u (suc i) lt ∙ take-suc t i 0 h) (drop_at (take (suc i) t) u (suc i) lt)
            ∙ append_snoc (take i t) P (down_of p (drop (suc i) xs) (drop (suc i) ys) u)
            ∙ ap (λ (z : List ℕ). take i t ++ z)
            (sym (ap₂ (λ (a b : List ℕ). down_of p a b (drop i t)) (drop-cons xs i 0 (omega (arith, S.same_x, d.len))) (drop-cons ys i 0 (omega (arith, S.same_y, d.len)))
            ∙ ap (down_of p (x ∷ drop (suc i) xs) (y ∷ drop (suc i) ys)) (drop-cons t i 0 h)
            ∙ down_cons p x y P (drop (suc i) xs) (drop (suc i) ys) (drop (suc i) t)))
            ∙ d.left;
      }

  pub descend_more : (t u : List ℕ) (i : ℕ) → Descended p xs ys s t i → i < length s
      → u ≡ less_of p (get_or xs i 0) (get_or ys i 0) (get_or t i 0) (take (length xs - (i + 1)) (drop (i + 1) xs)) (take (length t - (i + 1)) (drop (i + 1) t))
      → Descended p xs ys s (put_mid (i + 1) (length t - (i + 1)) t u) (i + 1)
  descend_more t u i d b e =
      let h : i < length t = omega (arith, d.len) in
      let z : suc i ≡ i + 1 = omega arith in
      let f : u ≡ less_of p (get_or xs i 0) (get_or ys i 0) (get_or t i 0) (drop (i + 1) xs) (drop (i + 1) t) =
      e ∙ ap₂ (less_of p (get_or xs i 0) (get_or ys i 0) (get_or t i 0)) (tail_part xs (i + 1)) (tail_part t (i + 1)) in
      rw (tail_put t u (i + 1), f)
      (subst (λ (a : ℕ). Descended p xs ys s (take a t ++ less_of p (get_or xs i 0) (get_or ys i 0) (get_or t i 0) (drop a xs) (drop a t)) a) z (descend_step t i d h))

  pub descend_end : (t : List ℕ) (i : ℕ) → Descended p xs ys s t i → length t ≤ i → t ≡ down_of p xs ys s
  unfolding down_of
  descend_end t i d h =
      sym (append-nil t) ∙ ap (λ (a : List ℕ). a ++ []) (sym (take_all i t h))
      ∙ ap (λ (a : List ℕ). take i t ++ down_of p a (drop i ys) (drop i t)) (sym (drop_of_length-le xs {i = i} (omega (arith, S.same_x, d.len)))) ∙ d.left

pub ruleset descending = (descend_none, descend_row, descend_y, descend_word, descend_more, descend_end)

-- ---- one unknown of the second pass

module _ (p : ℕ) (xs ys t : List ℕ) (S : System p xs ys t) (i : ℕ) (h : i < length t) where
  pub rise_x : get_or xs i 0 ≤ p
  rise_x = x_in p xs ys t S t i refl h

  pub rise_y : get_or ys i 0 ≤ p
  rise_y = y_in p xs ys t S t i refl h

  after : Row p (get_or ys i 0) (drop (i + 1) ys) (drop (i + 1) t)
  after =
      let z : suc i ≡ i + 1 = omega arith in
      subst (λ (a : ℕ). Row p (get_or ys i 0) (drop a ys) (drop a t)) z (row_y p xs ys t S t i refl h S.words)

  pub rise_row : Row p (get_or ys i 0) (take (length ys - (i + 1)) (drop (i + 1) ys)) (take (length t - (i + 1)) (drop (i + 1) t))
  rise_row = rw (tail_part ys (i + 1), tail_part t (i + 1)) after

  pub rise_off : Off (Apart p) (get_or xs i 0) (take (length ys - (i + 1)) (drop (i + 1) ys))
  rise_off = rw (tail_part ys (i + 1)) (off_drop p (get_or xs i 0) ys (i + 1) (cross_off p xs ys i S.cross (omega (arith, S.same_x))))

  U : List ℕ
  U = back_of p (get_or xs i 0) (get_or ys i 0) (drop (i + 1) ys) (drop (i + 1) t)

  length_U : length U ≡ length t - (i + 1)
  unfolding U
  length_U =
      ap length (sym (back_zip p (get_or xs i 0) (get_or ys i 0) (drop (i + 1) ys) (drop (i + 1) t)))
      ∙ length_zip (settled_of p (get_or xs i 0) (get_or ys i 0)) (drop (i + 1) ys) (drop (i + 1) t) after.same ∙ length-drop (i + 1) t

  head_length : length (take (i + 1) t) ≡ i + 1
  head_length = length-take-le (i + 1) t (omega arith)

  module _ (u : List ℕ) (e : u ≡ back_of p (get_or xs i 0) (get_or ys i 0) (take (length ys - (i + 1)) (drop (i + 1) ys)) (take (length t - (i + 1)) (drop (i + 1) t))) where
    u_is : u ≡ U
    unfolding U
    u_is = e ∙ ap₂ (back_of p (get_or xs i 0) (get_or ys i 0)) (tail_part ys (i + 1)) (tail_part t (i + 1))

    put_is : put_mid (i + 1) (length t - (i + 1)) t u ≡ take (i + 1) t ++ U
    put_is = tail_put t u (i + 1) ∙ ap (λ (z : List ℕ). take (i + 1) t ++ z) u_is

    value_is : get_or (put_mid (i + 1) (length t - (i + 1)) t u) i 0 ≡ get_or t i 0
    value_is =
        ap (λ (z : List ℕ). get_or z i 0) put_is ∙ get_or-append (take (i + 1) t) U 0 i (omega (arith, head_length)) ∙ get_or-take (i + 1) t i 0 (omega arith)

    module _ (g : ℕ)
        (f : g ≡ row_of p (get_or xs i 0) (take (length ys - (i + 1)) (drop (i + 1) ys))
        (back_of p (get_or xs i 0) (get_or ys i 0) (take (length ys - (i + 1)) (drop (i + 1) ys)) (take (length t - (i + 1)) (drop (i + 1) t)))) where
      g_is : g ≡ row_of p (get_or xs i 0) (drop (i + 1) ys) U
      g_is = f ∙ ap₂ (row_of p (get_or xs i 0)) (tail_part ys (i + 1)) (sym e ∙ u_is)

      pub rise_sum : bit_xor (get_or (put_mid (i + 1) (length t - (i + 1)) t u) i 0) g < 2 ^ p
      rise_sum =
          xor_lt p _ g (subst (λ (z : ℕ). z < 2 ^ p) (sym value_is) (words_at p t S.words i))
          (subst (λ (z : ℕ). z < 2 ^ p) (sym g_is) (row_lt p (get_or xs i 0) (drop (i + 1) ys) U))

      pub rise_end : (r : ℕ) → r ≡ times_of p (get_or xs i 0) (get_or ys i 0) (bit_xor (get_or (put_mid (i + 1) (length t - (i + 1)) t u) i 0) g)
          → set (put_mid (i + 1) (length t - (i + 1)) t u) i r ≡ rise_of p xs ys t i
      unfolding rise_of U ◌⊕◌
      rise_end r k =
          let z : i + 1 ≡ suc i = omega arith in
          let v : r ≡ times_of p (get_or xs i 0) (get_or ys i 0) (bit_xor (get_or t i 0) (row_of p (get_or xs i 0) (drop (i + 1) ys) U)) =
          k ∙ ap₂ (λ (a b : ℕ). times_of p (get_or xs i 0) (get_or ys i 0) (bit_xor a b)) value_is g_is in
          ap (λ (l : List ℕ). set l i r) (put_is ∙ ap (λ (l : List ℕ). l ++ U) (ap (λ (a : ℕ). take a t) z ∙ take-suc t i 0 h) ∙ append_snoc (take i t) (get_or t i 0) U)
          ∙ set_at (take i t) (get_or t i 0) U r i (length-take-le i t (omega arith))
          ∙ ap (λ (a : ℕ). take i t ++ (a ∷ U)) v

pub ruleset rising = (rise_x, rise_y, rise_row, rise_off, rise_sum, rise_end)

-- ---- the second pass

up_cons : (p x y P : ℕ) (xs ys Ps : List ℕ)
    → up_of p (x ∷ xs) (y ∷ ys) (P ∷ Ps)
    ≡ times_of p x y (P ⊕ row_of p x ys (back_of p x y ys (up_of p xs ys Ps))) ∷ back_of p x y ys (up_of p xs ys Ps)
unfolding up_of row_of back_of
up_cons p x y P xs ys Ps = refl

pub record Ascended (p : ℕ) (xs ys s t : List ℕ) (j : ℕ) : Type 0 where
  pub within : j ≤ length t
  pub len : length t ≡ length s
  pub words : Words p t
  pub front : take j t ≡ take j s
  pub done : drop j t ≡ up_of p (drop j xs) (drop j ys) (drop j s)

module _ (p : ℕ) (xs ys s : List ℕ) (S : System p xs ys s) where
  pub ascend_none : Ascended p xs ys s s (length s)
  unfolding up_of
  ascend_none = record {
    within = omega arith;
    len = refl;
    words = S.words;
    front = refl;
    done = drop_of_length-le s {i = length s} (omega arith)
        ∙ ap (λ (l : List ℕ). up_of p l (drop (length s) ys) (drop (length s) s)) (sym (drop_of_length-le xs {i = length s} (omega (arith, S.same_x))));
  }

  pub ascend_system : (t : List ℕ) (j : ℕ) → Ascended p xs ys s t j → System p xs ys t
  ascend_system t j d = record {
    same_x = S.same_x ∙ sym d.len;
    same_y = S.same_y ∙ sym d.len;
    distinct_x = S.distinct_x;
    distinct_y = S.distinct_y;
    cross = S.cross;
    words = d.words;
  }

  ascend_step : (t : List ℕ) (k : ℕ) → Ascended p xs ys s t (k + 1) → Ascended p xs ys s (rise_of p xs ys t k) k
  unfolding rise_of back_of U
  ascend_step t k d =
      let x : ℕ = get_or xs k 0 in
      let y : ℕ = get_or ys k 0 in
      let u : List ℕ = back_of p x y (drop (k + 1) ys) (drop (k + 1) t) in
      let v : ℕ = times_of p x y (get_or t k 0 ⊕ row_of p x (drop (k + 1) ys) u) in
      let hk : k < length t = omega (arith, d.within) in
      let lt : length (take k t) ≡ k = length-take-le k t (omega arith) in
      let lu : length u ≡ length t - (k + 1) = length_U p xs ys t (ascend_system t (k + 1) d) k hk in
      let la : length (take k t ++ v ∷ u) ≡ length (take k t) + suc (length u) = length-append (take k t) (v ∷ u) in
      let same : get_or t k 0 ≡ get_or s k 0 =
      sym (get_or-take (k + 1) t k 0 (omega arith)) ∙ ap (λ (l : List ℕ). get_or l k 0) d.front ∙ get_or-take (k + 1) s k 0 (omega arith) in
      record {
        within = omega arith;
        len = omega (arith, d.len);
        words = words_join p (take k t) (v ∷ u) (words_take p k t d.words) (times_lt p x y _, back_words p x y (drop (k + 1) ys) (drop (k + 1) t));
        front = take_at (take k t) (v ∷ u) k lt ∙ sym (take-take k (k + 1) t (omega arith)) ∙ ap (take k) d.front ∙ take-take k (k + 1) s (omega arith);
        done = drop_at (take k t) (v ∷ u) k lt
            ∙ ap₂ (λ (a : ℕ) (l : List ℕ). times_of p x y (a ⊕ row_of p x (drop (k + 1) ys) (back_of p x y (drop (k + 1) ys) l)) ∷ back_of p x y (drop (k + 1) ys) l) same d.done
            ∙ sym (ap₂ (λ (a b : List ℕ). up_of p a b (drop k s)) (drop_next xs k (omega (arith, S.same_x, d.len))) (drop_next ys k (omega (arith, S.same_y, d.len)))
            ∙ ap (up_of p (x ∷ drop (k + 1) xs) (y ∷ drop (k + 1) ys)) (drop_next s k (omega (arith, d.len)))
            ∙ up_cons p x y (get_or s k 0) (drop (k + 1) xs) (drop (k + 1) ys) (drop (k + 1) s));
      }

  pub ascend_more : (t u : List ℕ) (j : ℕ) → Ascended p xs ys s t j → 0 < j → u ≡ rise_of p xs ys t (j - 1) → Ascended p xs ys s u (j - 1)
  ascend_more t u j d h e =
      let z : j ≡ j - 1 + 1 = omega arith in
      subst (λ (l : List ℕ). Ascended p xs ys s l (j - 1)) (sym e) (ascend_step t (j - 1) (subst (λ (m : ℕ). Ascended p xs ys s t m) z d))

  pub ascend_in : (t : List ℕ) (j : ℕ) → Ascended p xs ys s t j → 0 < j → j - 1 < length t
  ascend_in t j d h = omega (arith, d.within)

  pub ascend_end : (t : List ℕ) (j : ℕ) → Ascended p xs ys s t j → j ≤ 0 → t ≡ up_of p xs ys s
  ascend_end t j d h = let z : j ≡ 0 = omega arith in subst (λ (m : ℕ). drop m t ≡ up_of p (drop m xs) (drop m ys) (drop m s)) z d.done

pub ruleset ascending = (ascend_none, ascend_system, ascend_in, ascend_more, ascend_end)

-- ---- both

down_words : (p : ℕ) (xs ys s : List ℕ) → Words p s → Words p (down_of p xs ys s)
unfolding down_of less_of
down_words p [] ys s h = tt
down_words p (x ∷ xs) [] s h = tt
down_words p (x ∷ xs) (y ∷ ys) [] h = tt
down_words p (x ∷ xs) (y ∷ ys) (w ∷ s) h = (h.0, down_words p xs ys (less_of p x y w xs s) (less_words p x y w xs s))

down_length : (p : ℕ) (xs ys s : List ℕ) → length xs ≡ length s → length ys ≡ length s → length (down_of p xs ys s) ≡ length s
unfolding down_of less_of
down_length p [] ys s e f = e
down_length p (x ∷ xs) [] s e f = f
down_length p (x ∷ xs) (y ∷ ys) [] e f = refl
down_length p (x ∷ xs) (y ∷ ys) (w ∷ s) e f =
    let l : length xs ≡ length s = omega arith in
    let m : length ys ≡ length s = omega arith in
    let k : length (less_of p x y w xs s) ≡ length s = ap length (sym (less_zip p x y w xs s)) ∙ length_zip (cleared_of p x y w) xs s l in
    ap suc (down_length p xs ys (less_of p x y w xs s) (l ∙ sym k) (m ∙ sym k) ∙ k)

pub system_down : (p : ℕ) (xs ys s t : List ℕ) → System p xs ys s → t ≡ down_of p xs ys s → System p xs ys t
system_down p xs ys s t S e =
    let l : length (down_of p xs ys s) ≡ length s = down_length p xs ys s S.same_x S.same_y in
    rw e (record {
      same_x = S.same_x ∙ sym l;
      same_y = S.same_y ∙ sym l;
      distinct_x = S.distinct_x;
      distinct_y = S.distinct_y;
      cross = S.cross;
      words = down_words p xs ys s S.words;
    })

pub solved : (p : ℕ) (xs ys s t u : List ℕ) → t ≡ down_of p xs ys s → u ≡ up_of p xs ys t → u ≡ solve_of p xs ys s
unfolding down_of up_of solve_of
solved p xs ys s t u e f = f ∙ ap (up_of p xs ys) e ∙ sym (two_passes ◌⊕◌ 0 (times_of p) (over_of p) xs ys s)

pub ruleset solving = (system_down, solved)
