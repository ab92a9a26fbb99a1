-- What the inner functions ask for and what they leave.
-- Assumes nothing.
use Rattle.std.specs.Prelude.{ℕ, ◌+◌, ◌*◌, ◌/◌, ◌%◌, ◌<◌, ◌≤◌, List, ◌≢◌, ◌≡◌, length, get_or}
use Rattle.laws.specs.Bit.{pack}
use Rattle.laws.specs.Choose.{choose}
use Rattle.laws.specs.Part.{tab}
use Rattle.stripe.specs.Layout.{rows, column_length, image_length, parity_byte, data_byte, parity_from}
use Rattle.stripe.specs.Params.{Admitted}
use Rattle.stripe.specs.Reading.{Image}
use Rattle.stripe.specs.Sections.{image_of, parities_in}
use Rattle.stripe.specs.declared.Params.{Params}
use Rattle.parity.specs.Answer.{parity_right}
use Rattle.block.specs.Parity.{due}

-- ---- parity by blocks of lanes: lane x is byte x of each strip

-- byte o of parity column j, which stands row by row
unfoldable pub due_column : Params → (ℕ → ℕ → ℕ → ℕ) → ℕ → ℕ → ℕ
due_column q d j o = due q d j (o / q.b) (o % q.b)

-- 0 where parity j is right, else 1; the word of these of the first n parities
unfoldable pub wrong_bit : List ℕ → Params → ℕ → ℕ
wrong_bit s q j = choose (parity_right s q j) 0 1

unfoldable pub wrong_to : List ℕ → Params → ℕ → ℕ
wrong_to s q n = pack n (wrong_bit s q)

-- an image, room for p rows of w lanes, and parity j
pub record ColumnAsked (s acc : List ℕ) (q : Params) (j w : ℕ) : Type 0 where
  pub image : Image s q
  pub column : j < q.r
  pub some : 1 ≤ w
  pub lanes : w ≤ 128
  pub fits : w ≤ q.b
  pub room : q.p * w ≤ length acc

-- w lanes at a time, of those that a strip has, and no more than a row of n bytes has room for
pub record Lanes (q : Params) (w n : ℕ) : Type 0 where
  pub some : 1 ≤ w
  pub fits : w ≤ q.b
  pub held : w ≤ n
  pub most : n ≤ 128

-- a block of w lanes of b that starts at `a` has the lanes from l on that a block has
pub record Starts (l w b a : ℕ) : Type 0 where
  pub low : a ≤ l
  pub inside : a + w ≤ b
  pub reach : (x : ℕ) → x < l + w → x < b → x < a + w

-- s is now t: in parity j the lanes below n are due, and no byte of another parity or before parity changed
pub record ColumnFilled (s t : List ℕ) (q : Params) (j n : ℕ) : Type 0 where
  pub len : length t ≡ length s
  pub head : (o : ℕ) → o < parity_from q → get_or t o 0 ≡ get_or s o 0
  pub lanes : (u x : ℕ) → u < rows q → x < n → x < q.b → parity_byte t q j u x ≡ due q (data_byte s q) j u x
  pub rest : (i u x : ℕ) → i ≢ j → u < rows q → x < q.b → parity_byte t q i u x ≡ parity_byte s q i u x

-- s is now t: the first n parities are due, and no byte before parity changed
pub record ColumnsFilled (s t : List ℕ) (q : Params) (n : ℕ) : Type 0 where
  pub len : length t ≡ length s
  pub head : (o : ℕ) → o < parity_from q → get_or t o 0 ≡ get_or s o 0
  pub lanes : (j u x : ℕ) → j < n → u < rows q → x < q.b → parity_byte t q j u x ≡ due q (data_byte s q) j u x

-- ---- a new image

-- data and a slice of the right lengths
pub record Room (d s : List ℕ) (q : Params) : Type 0 where
  pub admitted : Admitted q
  pub width : length d ≡ q.k * column_length q
  pub room : length s ≡ image_length q

-- the image of the data d, revisions 0, with the parity that s has
abbrev pub unset : List ℕ → List ℕ → Params → List ℕ
unset d s q = image_of q (tab (4 * q.k) (λ o. 0)) d (parities_in s q)
