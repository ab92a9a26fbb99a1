-- What `?` hands on: the error that the call before it gave.
-- Assumes nothing.
use Rattle.std.specs.Prelude.{Result, Ok, Err, ◌≡◌}
use Rattle.std.specs.Result.{IsErrAnd}
use mathlib.Core.Path.{ap}

pub handed : {T E : Type 0} (r : Result T E) (e : E) → IsErrAnd r (λ y. y ≡ e) → r ≡ Err e
handed (Ok x) e p = absurd p
handed (Err y) e p = ap Err p
