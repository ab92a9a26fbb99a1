-- A lost data column is a sum over the consulted columns, each acted on by one word.
-- Parities at the exponents xs below r, data at the exponents ys from r on, as document 01 has them.
-- Assumes nothing.
use Prim.Native.Nat.{ℕ, zero, suc, ◌<◌, ◌≤◌}
use mathlib.Core.Bool.{Bool, true, false}
use mathlib.Core.List.{List, [], ◌∷◌, map}
use mathlib.Core.Path.{◌≡◌, refl, sym, ap, ◌∙◌}
use native.Mathlib.Omega.{arith}
use lib.Dec.{T}
use lib.ListN.{length, get_or, length-map}
use Rattle.laws.specs.Xor.{◌⊕◌}
use Rattle.algebra.proofs.Consulted.{lost_column}
use Rattle.algebra.proofs.Encode.{decode_encode}
use Rattle.algebra.proofs.Lost.{same_length, same_lost, rising_lower, rising_lost, rising_off, rising_distinct, syndromes, all_lost}
use Rattle.algebra.proofs.Stored.{lanes_good, lanes_agree, agree_lanes, lost_map, encode_good}
use Rattle.algebra.specs.Cauchy.{Same, Off, Cross, row}
use Rattle.algebra.specs.Code.{plus, none, encode, decode}
use Rattle.algebra.specs.Column.{lane}
use Rattle.algebra.specs.Divide.{over}
use Rattle.algebra.specs.Lane.{D, Apart}
use Rattle.algebra.specs.Prime.{odd_prime}
use Rattle.algebra.specs.Recovery.{lost, kept, with, Rising, Agree, entry_of, words_of, freed, acting}

pub rising_kept : (lo hi : ℕ) (m : List Bool) (l : List ℕ) → Rising lo hi l → Rising lo hi (kept m l)
rising_kept lo hi [] l r = r
rising_kept lo hi (b ∷ m) [] r = tt
rising_kept lo hi (true ∷ m) (x ∷ l) r = rising_lower lo (suc x) hi (kept m l) (omega arith) (rising_kept (suc x) hi m l r.2)
rising_kept lo hi (false ∷ m) (x ∷ l) r = (r.0, r.1, rising_kept (suc x) hi m l r.2)

pub kept_length : {A B : Type 0} (m : List Bool) (k : List A) (l : List B) → length k ≡ length l → length (kept m k) ≡ length (kept m l)
kept_length [] k l e = e
kept_length (b ∷ m) [] [] e = refl
kept_length (b ∷ m) [] (c ∷ l) e = absurd (omega arith)
kept_length (b ∷ m) (a ∷ k) [] e = absurd (omega arith)
kept_length (true ∷ m) (a ∷ k) (c ∷ l) e = kept_length m k l (omega arith)
kept_length (false ∷ m) (a ∷ k) (c ∷ l) e = ap suc (kept_length m k l (omega arith))

module _ (n : ℕ) where
  -- xs below r, ys from r on
  pub cross_below : (lo r : ℕ) (xs ys : List ℕ) → r ≤ suc n → Rising lo r xs → Rising r (suc n) ys → Cross (Apart (suc n)) xs ys
  cross_below lo r [] ys s rx ry = tt
  cross_below lo r (x ∷ xs) ys s rx ry =
      (rising_off n x r (suc n) ys rx.1 (omega arith) (omega arith) ry, cross_below (suc x) r xs ys s rx.2 ry)

  pub off_below : (z lo r : ℕ) (xs : List ℕ) → r ≤ z → z < suc n → Rising lo r xs → Off (Apart (suc n)) z xs
  off_below z lo r [] h k rx = tt
  off_below z lo r (x ∷ xs) h k rx = ((k, omega arith, omega arith), off_below z (suc x) r xs h k rx.2)

  pub offs_below : (r lo : ℕ) (zs xs : List ℕ) → r ≤ lo → Rising lo (suc n) zs → Rising 0 r xs → Cross (Apart (suc n)) zs xs
  offs_below r lo [] xs h rz rx = tt
  offs_below r lo (z ∷ zs) xs h rz rx = (off_below z 0 r xs (omega arith) rz.1 rx, offs_below r (suc z) zs xs (omega arith) rz.2 rx)

  pub agree_at : (fs gs : List (ℕ → ℕ)) → Agree n fs gs → (u q : ℕ) → q < n → get_or fs u none q ≡ get_or gs u none q
  agree_at [] [] a u q h = refl
  agree_at [] (g ∷ gs) a u q h = absurd a
  agree_at (f ∷ fs) [] a u q h = absurd a
  agree_at (f ∷ fs) (g ∷ gs) a zero q h = a.0 q h
  agree_at (f ∷ fs) (g ∷ gs) a (suc u) q h = agree_at fs gs a.1 u q h

  pub kept_map : (m : List Bool) (ds : List (ℕ → ℕ)) → kept m (map (lane n) ds) ≡ map (lane n) (kept m ds)
  kept_map [] ds = refl
  kept_map (b ∷ m) [] = refl
  kept_map (true ∷ m) (d ∷ ds) = kept_map m ds
  kept_map (false ∷ m) (d ∷ ds) = ap (λ (l : List (ℕ → ℕ)). lane n d ∷ l) (kept_map m ds)

  freed_with : (xs : List ℕ) (Cs : List (ℕ → ℕ)) (zs : List ℕ) (ss : List (ℕ → ℕ)) → with plus Cs (encode n xs zs ss) ≡ freed n xs Cs zs ss
  freed_with [] [] zs ss = refl
  freed_with [] (C ∷ Cs) zs ss = refl
  freed_with (x ∷ xs) [] zs ss = refl
  freed_with (x ∷ xs) (C ∷ Cs) zs ss = ap (λ (l : List (ℕ → ℕ)). plus C (row plus none (D n) (over n) x zs ss) ∷ l) (freed_with xs Cs zs ss)

  agree_length : (fs gs : List (ℕ → ℕ)) → Agree n fs gs → length fs ≡ length gs
  agree_length [] [] a = refl
  agree_length [] (g ∷ gs) a = absurd a
  agree_length (f ∷ fs) [] a = absurd a
  agree_length (f ∷ fs) (g ∷ gs) a = ap suc (agree_length fs gs a.1)

  length_encode : (xs ys : List ℕ) (ss : List (ℕ → ℕ)) → length (encode n xs ys ss) ≡ length xs
  length_encode [] ys ss = refl
  length_encode (x ∷ xs) ys ss = ap suc (length_encode xs ys ss)

  module _ (small : n < 61) (prime : T (odd_prime (suc n))) (r : ℕ) (m : List Bool) (xs ys : List ℕ) (ds Ps : List (ℕ → ℕ))
      (rx : Rising 0 r xs) (ry : Rising r (suc n) ys) (hr : r ≤ suc n) (e : length ys ≡ length ds) (c : length xs ≡ length (lost m ys))
      (a : Agree n Ps (encode n xs ys (map (lane n) ds))) where
    -- the solved lanes are the lost columns
    pub solved_right : decode n xs (lost m ys) (with plus (map (lane n) Ps) (encode n xs (kept m ys) (kept m (map (lane n) ds)))) ≡ map (lane n) (lost m ds)
    solved_right =
        let ss : List (ℕ → ℕ) = map (lane n) ds in
        let ry' : Rising r (suc n) (lost m ys) = rising_lost r (suc n) m ys ry in
        let e' : Same ys ss = same_length ys ss (e ∙ sym (length-map ds (lane n))) in
        ap (λ (l : List (ℕ → ℕ)). decode n xs (lost m ys) (with plus l (encode n xs (kept m ys) (kept m ss))))
        (lanes_agree n Ps (encode n xs ys ss) a (encode_good n xs ys ss (lanes_good n ds)))
        ∙ ap (decode n xs (lost m ys)) (syndromes n m xs ys ss e')
        ∙ decode_encode n small prime xs (lost m ys) (lost m ss) (all_lost n m ss (lanes_good n ds)) (same_length xs (lost m ys) c) (same_lost m ys ss e')
        (rising_distinct n 0 r xs hr rx) (rising_distinct n r (suc n) (lost m ys) (omega arith) ry') (cross_below 0 r xs (lost m ys) hr rx ry')
        ∙ lost_map n m ds

    lanes_length : length xs ≡ length (map (lane n) Ps)
    lanes_length = sym (length-map Ps (lane n) ∙ agree_length Ps (encode n xs ys (map (lane n) ds)) a ∙ length_encode xs ys (map (lane n) ds))

    -- each coefficient of lost column u is a sum over the consulted columns of word · column: the words ms of row u of the matrix on the
    -- consulted parities, and theirs on the present data
    pub recovered_lane : (u : ℕ) (ms : List ℕ) → ((v : ℕ) → v < length xs → get_or ms v 0 ≡ entry_of (suc n) xs (lost m ys) u v) → (q : ℕ)
        → get_or (map (lane n) (lost m ds)) u none q ≡ acting n ms (map (lane n) Ps) q ⊕ acting n (words_of (suc n) xs ms (kept m ys)) (map (lane n) (kept m ds)) q
    recovered_lane u ms h q =
        ap (λ (k : List (ℕ → ℕ)). get_or k u none q) (sym solved_right)
        ∙ ap (λ (k : List (ℕ → ℕ)). get_or (decode n xs (lost m ys) k) u none q)
        (ap (λ (k : List (ℕ → ℕ)). with plus (map (lane n) Ps) (encode n xs (kept m ys) k)) (kept_map m ds)
        ∙ freed_with xs (map (lane n) Ps) (kept m ys) (map (lane n) (kept m ds)))
        ∙ lost_column n small prime xs (lost m ys) ms (map (lane n) Ps) (kept m ys) (map (lane n) (kept m ds)) lanes_length
        (offs_below r r (kept m ys) xs (omega arith) (rising_kept r (suc n) m ys ry) rx) (lanes_good n Ps) (lanes_good n (kept m ds)) u h q

    -- the stored coefficients of lost column u
    pub recovered : (u : ℕ) (ms : List ℕ) → ((v : ℕ) → v < length xs → get_or ms v 0 ≡ entry_of (suc n) xs (lost m ys) u v)
        → (q : ℕ) → q < n
        → get_or (lost m ds) u none q ≡ acting n ms (map (lane n) Ps) q ⊕ acting n (words_of (suc n) xs ms (kept m ys)) (map (lane n) (kept m ds)) q
    recovered u ms h q hq =
        sym (agree_at (map (lane n) (lost m ds)) (lost m ds) (agree_lanes n (lost m ds) (map (lane n) (lost m ds)) refl) u q hq)
        ∙ recovered_lane u ms h q
