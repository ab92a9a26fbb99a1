-- Words below 2^p in lists; two lists combined place by place in a loop; the part of a slice from a place on.
-- Assumes nothing.
use Prim.Native.Nat.{ℕ, zero, suc, ◌+◌, ◌-◌, ◌^◌, ◌<◌, ◌≤◌}
use mathlib.Core.List.{List, [], ◌∷◌, ◌++◌, append-nil}
use mathlib.Core.Path.{◌≡◌, refl, ap, ◌∙◌}
use native.Mathlib.Nat.{not-suc-le-zero}
use native.Mathlib.Omega.{arith}
use lib.ListN.{length, get_or, set, take, drop, drop_of_length-le, length-drop}
use lib.Pow.{pow_pos}
use lib.Seq.{drop-cons, take_all}
use borrow.Rule.Slice.PartMut.{put_mid}
use Rattle.laws.proofs.Patch.{patch_front, patch_all, patch_end}
use Rattle.laws.specs.Patch.{Patched}
use Rattle.solver.specs.System.{Words}

-- ---- words

pub words_at : (p : ℕ) (l : List ℕ) → Words p l → (k : ℕ) → get_or l k 0 < 2 ^ p
words_at p [] h k = pow_pos p
words_at p (w ∷ l) h zero = h.0
words_at p (w ∷ l) h (suc k) = words_at p l h.1 k

pub words_take : (p i : ℕ) (l : List ℕ) → Words p l → Words p (take i l)
words_take p zero l h = tt
words_take p (suc i) [] h = tt
words_take p (suc i) (w ∷ l) h = (h.0, words_take p i l h.1)

pub words_drop : (p i : ℕ) (l : List ℕ) → Words p l → Words p (drop i l)
words_drop p zero l h = h
words_drop p (suc i) [] h = tt
words_drop p (suc i) (w ∷ l) h = words_drop p i l h.1

pub words_join : (p : ℕ) (k l : List ℕ) → Words p k → Words p l → Words p (k ++ l)
words_join p [] l h g = g
words_join p (w ∷ k) l h g = (h.0, words_join p k l h.1 g)

pub words_set : (p : ℕ) (l : List ℕ) (i w : ℕ) → Words p l → w < 2 ^ p → Words p (set l i w)
words_set p [] i w h g = tt
words_set p (v ∷ l) zero w h g = (g, h.1)
words_set p (v ∷ l) (suc i) w h g = (h.0, words_set p l i w h.1 g)

-- ---- two lists, element by element

abbrev pub zip : (ℕ → ℕ → ℕ) → List ℕ → List ℕ → List ℕ
zip f [] l = []
zip f (x ∷ xs) [] = []
zip f (x ∷ xs) (w ∷ l) = f x w ∷ zip f xs l

unfoldable pub zip_at : (ℕ → ℕ → ℕ) → List ℕ → List ℕ → ℕ → ℕ
zip_at f xs l k = f (get_or xs k 0) (get_or l k 0)

pub length_zip : (f : ℕ → ℕ → ℕ) (xs l : List ℕ) → length xs ≡ length l → length (zip f xs l) ≡ length l
length_zip f [] l e = e
length_zip f (x ∷ xs) [] e = refl
length_zip f (x ∷ xs) (w ∷ l) e = ap suc (length_zip f xs l (omega arith))

get_or_zip : (f : ℕ → ℕ → ℕ) (xs l : List ℕ) → length xs ≡ length l → (k : ℕ) → k < length l → zip_at f xs l k ≡ get_or (zip f xs l) k 0
unfolding zip_at
get_or_zip f [] [] e k h = absurd (not-suc-le-zero h)
get_or_zip f [] (w ∷ l) e k h = absurd (let z : 0 ≡ suc (length l) = e in omega arith)
get_or_zip f (x ∷ xs) [] e k h = absurd (not-suc-le-zero h)
get_or_zip f (x ∷ xs) (w ∷ l) e zero h = refl
get_or_zip f (x ∷ xs) (w ∷ l) e (suc k) h = get_or_zip f xs l (omega arith) k (omega arith)

pub words_zip : (p : ℕ) (f : ℕ → ℕ → ℕ) (xs l : List ℕ) → ((x w : ℕ) → f x w < 2 ^ p) → Words p (zip f xs l)
words_zip p f [] l h = tt
words_zip p f (x ∷ xs) [] h = tt
words_zip p f (x ∷ xs) (w ∷ l) h = (h x w, words_zip p f xs l h)

pub zip_more : (f : ℕ → ℕ → ℕ) (xs s t : List ℕ) (m r : ℕ) → Patched s t 0 m (zip_at f xs s) → m < length s → r ≡ f (get_or xs m 0) (get_or t m 0)
    → Patched s (set t m r) 0 (m + 1) (zip_at f xs s)
unfolding zip_at
zip_more f xs s t m r d h e =
    patch_front s t m (zip_at f xs s) r d (omega (arith, d.len)) (e ∙ ap (f (get_or xs m 0)) (d.above m (omega arith)))

pub zip_end : (f : ℕ → ℕ → ℕ) (xs s t : List ℕ) (m : ℕ) → Patched s t 0 m (zip_at f xs s) → length xs ≡ length s → m ≤ length s → length s ≤ m → t ≡ zip f xs s
zip_end f xs s t m d l h k =
    patch_all s t (zip f xs s) (zip_at f xs s) (patch_end s t 0 m (length s) (zip_at f xs s) d (omega (arith, d.len)) (omega (arith, d.len)))
    (length_zip f xs s l) (get_or_zip f xs s l)

-- ---- parts

-- the parts that the code lends: all from a place on
pub tail_part : (l : List ℕ) (a : ℕ) → take (length l - a) (drop a l) ≡ drop a l
tail_part l a = take_all (length l - a) (drop a l) (omega (arith, length-drop a l))

pub tail_put : (l u : List ℕ) (a : ℕ) → put_mid a (length l - a) l u ≡ take a l ++ u
tail_put l u a =
    ap (λ (z : List ℕ). take a l ++ (u ++ z)) (drop_of_length-le (drop a l) {i = length l - a} (omega (arith, length-drop a l)))
    ∙ ap (λ (z : List ℕ). take a l ++ z) (append-nil u)

pub drop_next : (l : List ℕ) (i : ℕ) → i < length l → drop i l ≡ get_or l i 0 ∷ drop (i + 1) l
drop_next l i h = let z : suc i ≡ i + 1 = omega arith in drop-cons l i 0 h ∙ ap (λ (a : ℕ). get_or l i 0 ∷ drop a l) z
