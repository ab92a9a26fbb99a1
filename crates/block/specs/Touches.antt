-- "The difference at row t of data column i is added to parity strip (j, q) exactly when coefficient q of (x^t + x^(p-1)) / (x^j + x^(r+i))
-- is 1, q at most p-2. The answer gives .. the number of such (j, q)."
-- Assumes nothing.
use Rattle.std.specs.Prelude.{ℕ, ◌+◌}
use Rattle.laws.specs.Bit.{bit, weight}
use Rattle.laws.specs.Sum.{total}
use Rattle.algebra.specs.Word.{times_of, over_of}
use Rattle.stripe.specs.declared.Params.{Params}
use Rattle.stripe.specs.Layout.{rows}

-- (x^t + x^(p-1)) / (x^j + x^(r+i)) as a word
unfoldable pub touch_word : Params → ℕ → ℕ → ℕ → ℕ
touch_word q i t j = over_of q.p j (q.r + i) (times_of q.p t (rows q) 1)

-- data strip (i, t) touches parity strip (j, u): 1 where it does, else 0
unfoldable pub touches : Params → ℕ → ℕ → ℕ → ℕ → ℕ
touches q i t j u = bit (touch_word q i t j) u

-- how many parity strips data strip (i, t) touches
unfoldable pub count : Params → ℕ → ℕ → ℕ
count q i t = total q.r (λ j. weight (touch_word q i t j) (rows q))
