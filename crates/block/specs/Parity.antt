-- "Stripe rules": what parity is.
-- Assumes nothing.
use Rattle.std.specs.Prelude.{ℕ, ◌+◌, ◌*◌, ◌/◌, ◌%◌, ◌<◌, ◌≡◌, List}
use Rattle.laws.specs.Sum.{sum}
use Rattle.laws.specs.Patch.{patch}
use Rattle.algebra.specs.Divide.{over}
use Rattle.algebra.specs.Column.{lane}
use Rattle.stripe.specs.declared.Params.{Params}
use Rattle.stripe.specs.Layout.{rows, column_length, parity_from, data_byte, parity_byte}

-- "Parity j is c_j = sum over i of s_i / (x^j + x^(r+i))", where s_i is the polynomial of data column i: coefficient t, byte x, of data whose
-- column i has byte x of strip t at d i t x
unfoldable pub due : Params → (ℕ → ℕ → ℕ → ℕ) → ℕ → ℕ → ℕ → ℕ
due q d j t x = sum q.k (λ i. over (rows q) j (q.r + i) (lane (rows q) (λ u. d i u x)) t)

-- byte o of the parity columns, which stand "each row by row"
unfoldable pub due_at : Params → (ℕ → ℕ → ℕ → ℕ) → ℕ → ℕ
due_at q d o = due q d (o / column_length q) (o % column_length q / q.b) (o % column_length q % q.b)

-- "An image is right when all parity is as above. Coefficients 0 to p-2 are stored."
pub record Right (s : List ℕ) (q : Params) : Type 0 where
  pub parity_due : (j t x : ℕ) → j < q.r → t < rows q → x < q.b → parity_byte s q j t x ≡ due q (data_byte s q) j t x

-- "set all parity from the data; other bytes stay"
unfoldable pub refilled : List ℕ → Params → List ℕ
refilled s q = patch s (parity_from q) (q.r * column_length q) (due_at q (data_byte s q))
