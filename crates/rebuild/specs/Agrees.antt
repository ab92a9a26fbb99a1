-- "What lost columns held at entry affects nothing.": images that are the same outside the lost columns.
-- Assumes nothing.
use Rattle.std.specs.Prelude.{ℕ, ◌+◌, ◌<◌, ◌≤◌, false, List, ◌≡◌, length, get_or}
use Rattle.stripe.specs.declared.Params.{Params}
use Rattle.stripe.specs.Layout.{rows, data_from, parity_count_at, parity_from, data_byte, parity_byte}
use Rattle.pattern.specs.Pattern.{is_lost}

-- u is as long as s, and has its bytes before the data, between data and parity, and in each column that is not lost
pub record AgreesOutside (s u : List ℕ) (q : Params) (m : ℕ) : Type 0 where
  pub len : length u ≡ length s
  pub front : (o : ℕ) → o < data_from q → get_or u o 0 ≡ get_or s o 0
  pub count : (o : ℕ) → parity_count_at q ≤ o → o < parity_from q → get_or u o 0 ≡ get_or s o 0
  pub data_there : (i t x : ℕ) → i < q.k → t < rows q → x < q.b → is_lost m i ≡ false → data_byte u q i t x ≡ data_byte s q i t x
  pub parity_there : (j t x : ℕ) → j < q.r → t < rows q → x < q.b → is_lost m (q.k + j) ≡ false → parity_byte u q j t x ≡ parity_byte s q j t x
