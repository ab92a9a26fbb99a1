-- What the solver's functions ask of exponents and words.
-- Assumes nothing.
use Rattle.std.specs.Prelude.{ℕ, ◌+◌, ◌<◌, ◌^◌, List, [], ◌∷◌, ◌++◌, ◌≡◌, length, get_or, take, drop}
use Rattle.laws.specs.Xor.{◌⊕◌}
use Rattle.algebra.specs.Cauchy.{Off, Distinct, Cross}
use Rattle.algebra.specs.Lane.{Apart}
use Rattle.algebra.specs.Recovery.{back_of, row_of}
use Rattle.algebra.specs.Word.{times_of}

-- words with no bit at p or above
abbrev pub Words : ℕ → List ℕ → Type 0
Words p [] = Unit {0}
Words p (w ∷ l) = (w < 2 ^ p) × Words p l

-- one exponent x apart from each of ys, and as many words
pub record Row (p x : ℕ) (ys vs : List ℕ) : Type 0 where
  pub same : length ys ≡ length vs
  pub off : Off (Apart p) x ys
  pub words : Words p vs

-- "different exponents": all of xs and ys, with as many words
pub record System (p : ℕ) (xs ys vs : List ℕ) : Type 0 where
  pub same_x : length xs ≡ length vs
  pub same_y : length ys ≡ length vs
  pub distinct_x : Distinct (Apart p) xs
  pub distinct_y : Distinct (Apart p) ys
  pub cross : Cross (Apart p) xs ys
  pub words : Words p vs

-- the words t with unknown i in place, from those after it that are solved for the system without it
unfoldable pub rise_of : ℕ → List ℕ → List ℕ → List ℕ → ℕ → List ℕ
rise_of p xs ys t i =
    let x : ℕ = get_or xs i 0 in
    let y : ℕ = get_or ys i 0 in
    let u : List ℕ = back_of p x y (drop (i + 1) ys) (drop (i + 1) t) in
    take i t ++ (times_of p x y (get_or t i 0 ⊕ row_of p x (drop (i + 1) ys) u) ∷ u)
