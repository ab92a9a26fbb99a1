-- What the operations on words leave has no bit at p or above.
-- Assumes nothing.
use Prim.Native.Nat.{ℕ, ◌<◌, ◌^◌, zero, suc}
use mathlib.Core.List.{List, [], ◌∷◌}
use lib.ListN.{get_or, length}
use lib.Pow.{pow_pos}
use Rattle.laws.proofs.Bit.{pack_lt}
use Rattle.laws.proofs.Xor.{⊕_lt}
use Rattle.algebra.proofs.Words.{times_lt, over_lt}
use Rattle.algebra.specs.Recovery.{row_of, back_of, less_of, solve_of, unit_of, entry_of}
use Rattle.algebra.specs.Divide.{quot}
use Rattle.algebra.specs.Word.{times_of, over_of, inverse_of, pred}

pub inverse_lt : (p a b : ℕ) → inverse_of p a b < 2 ^ p
unfolding inverse_of
inverse_lt p a b = pack_lt p (quot (pred p) a b)

pub row_lt : (p x : ℕ) (ys l : List ℕ) → row_of p x ys l < 2 ^ p
unfolding row_of
row_lt p x [] l = pow_pos p
row_lt p x (y ∷ ys) [] = pow_pos p
row_lt p x (y ∷ ys) (w ∷ l) = ⊕_lt p (over_of p x y w) (row_of p x ys l) (over_lt p x y w) (row_lt p x ys l)

back_lt : (p x y : ℕ) (ys l : List ℕ) (u : ℕ) → get_or (back_of p x y ys l) u 0 < 2 ^ p
unfolding back_of
back_lt p x y [] l u = pow_pos p
back_lt p x y (z ∷ ys) [] u = pow_pos p
back_lt p x y (z ∷ ys) (w ∷ l) zero = over_lt p y z (times_of p x z w)
back_lt p x y (z ∷ ys) (w ∷ l) (suc u) = back_lt p x y ys l u

pub solve_lt : (p : ℕ) (xs ys l : List ℕ) (u : ℕ) → get_or (solve_of p xs ys l) u 0 < 2 ^ p
unfolding solve_of back_of less_of
solve_lt p [] ys l u = pow_pos p
solve_lt p (x ∷ xs) [] l u = pow_pos p
solve_lt p (x ∷ xs) (y ∷ ys) [] u = pow_pos p
solve_lt p (x ∷ xs) (y ∷ ys) (w ∷ l) zero = times_lt p x y _
solve_lt p (x ∷ xs) (y ∷ ys) (w ∷ l) (suc u) = back_lt p x y ys (solve_of p xs ys (less_of p x y w xs l)) u

-- the words of the recovery matrix
pub entry_lt : (p : ℕ) (xs ys : List ℕ) (u v : ℕ) → entry_of p xs ys u v < 2 ^ p
unfolding entry_of
entry_lt p xs ys u v = solve_lt p xs ys (unit_of p (length xs) v) u
