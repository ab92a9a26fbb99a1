-- Laws of lists of columns.
-- Assumes nothing.
use Rattle.std.proofs.Common.{◌≡◌, ℕ, ◌+◌, ◌<◌, ◌≤◌, false, Option, Some, None, List, [], ◌∷◌, length, get_or, drop, refl, add-one}
use Rattle.std.proofs.Math.ListN.{drop_of_length-le}
use Rattle.std.proofs.Math.Seq.{drop-cons}
use Rattle.words.specs.Columns.{with_column, then_named, named, columns_of}
use Rattle.words.specs.Words.{parts, same_bytes}
use Rattle.words.specs.Decimal.{decimal_of}

-- from word i on
module _ (ws : List (List ℕ)) (i w : ℕ) (v : List ℕ) (whole : Option ℕ) (h : i < length ws) (here : v ≡ get_or ws i v) (so_far : named (drop i ws) w ≡ whole) where
  one_read : then_named (decimal_of v) (λ n. named (drop (i + 1) ws) (with_column w n)) ≡ whole
  unfolding named
  one_read = rw (here, add-one) (rw (drop-cons ws i v) at so_far)

  pub no_list : None ≡ decimal_of v → None ≡ whole
  no_list e = rw (← e) at one_read

  pub one_more : (n : ℕ) → Some n ≡ decimal_of v → named (drop (i + 1) ws) (with_column w n) ≡ whole
  one_more n e = rw (← e) at one_read

pub all_read : (ws : List (List ℕ)) (i w : ℕ) (whole : Option ℕ) → length ws ≤ i → named (drop i ws) w ≡ whole → Some w ≡ whole
unfolding named
all_read ws i w whole h e = rw (drop_of_length-le ws h) at e

-- a word that is neither nothing nor `-`
pub some_listed : (s : List ℕ) → (length s ≡ 0 → ⊥) → same_bytes s (45 ∷ []) ≡ false → named (parts 44 s) 0 ≡ columns_of s
some_listed [] z n = absurd (z refl)
some_listed (c ∷ s) z n = rw n
