-- What the inner functions ask and leave.
-- Assumes nothing.
use Rattle.std.specs.Prelude.{◌+◌, ◌<◌, ℕ, List, T, eqb}
use Rattle.laws.specs.Bit.{bit}
use Rattle.laws.specs.Part.{table}
use Rattle.algebra.specs.Recovery.{lost}
use Rattle.stripe.specs.Layout.{rows}
use Rattle.stripe.specs.Params.{Admitted}
use Rattle.stripe.specs.declared.Params.{Params}
use Rattle.pattern.specs.Pattern.{few_lost}

-- strip t of column n is there
pub record Cell (q : Params) (n t : ℕ) : Type 0 where
  pub admitted : Admitted q
  pub column : n < q.k + q.r
  pub row : t < rows q

-- the numbers base + i, in rising order, of the i below n whose bit in m is `want`
unfoldable pub named : ℕ → ℕ → ℕ → ℕ → List ℕ
named m want base n = lost (table n (λ i. eqb (bit m i) want)) (table n (λ i. base + i))

-- admitted parameters, and no more columns lost than there are parity columns
pub record Repairable (q : Params) (m : ℕ) : Type 0 where
  pub admitted : Admitted q
  pub few : T (few_lost q m)
