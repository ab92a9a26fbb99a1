-- What the functions of a block of lanes ask for and what they leave: lane x is byte x of each strip.
-- Assumes nothing.
use Rattle.std.specs.Prelude.{ℕ, ◌+◌, ◌*◌, ◌<◌, ◌≤◌, List, ◌≡◌, length, get_or}
use Rattle.stripe.specs.Layout.{rows, parity_byte, data_byte, parity_from}
use Rattle.stripe.specs.Reading.{Image}
use Rattle.stripe.specs.declared.Params.{Params}
use Rattle.block.specs.Parity.{due}

-- an image, room for p rows of w lanes, parity j, and a block of lanes from l
pub record BlockAsked (s acc : List ℕ) (q : Params) (j l w : ℕ) : Type 0 where
  pub image : Image s q
  pub column : j < q.r
  pub lanes : w ≤ 128
  pub within : l + w ≤ q.b
  pub room : q.p * w ≤ length acc

-- s is now t: in parity j the lanes from lo to hi are due, and no other byte changed
pub record BlockFilled (s t : List ℕ) (q : Params) (j lo hi : ℕ) : Type 0 where
  pub len : length t ≡ length s
  pub head : (o : ℕ) → o < parity_from q → get_or t o 0 ≡ get_or s o 0
  pub lanes : (u x : ℕ) → u < rows q → lo ≤ x → x < hi → parity_byte t q j u x ≡ due q (data_byte s q) j u x
  pub rest : (i u x : ℕ) → u < rows q → x < q.b → (i ≡ j → lo ≤ x → x < hi → ⊥) → parity_byte t q i u x ≡ parity_byte s q i u x

-- in parity j the lanes from lo to hi are due
pub record LanesRight (s : List ℕ) (q : Params) (j lo hi : ℕ) : Type 0 where
  pub bytes : (t x : ℕ) → t < rows q → lo ≤ x → x < hi → x < q.b → parity_byte s q j t x ≡ due q (data_byte s q) j t x
