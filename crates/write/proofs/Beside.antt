-- "every number beside it is 0", but for "this distance".
-- Assumes nothing.
use mathlib.Core.Path.{refl}
use Rattle.std.specs.Prelude.{Result, Ok, Err}
use Rattle.revision.proofs.Circle.{none_apart}
use Rattle.write.specs.Written.{Beside}
use Rattle.write.specs.declared.Accepted.{Accepted}
use Rattle.write.specs.declared.Refused.{Refused}
use Rattle.write.specs.declared.Refused.TheVariants.{Aged, Other}

-- so of every answer, of `write` and of `away::write`
pub beside : (a : Result Accepted Refused) → Beside a
beside (Ok a) = record { refusal_alone = λ f. absurd (f refl); distance_alone = λ f h. refl }
beside (Err (Aged g)) = record { refusal_alone = λ f. (refl, refl); distance_alone = none_apart g }
beside (Err (Other e)) = record { refusal_alone = λ f. (refl, refl); distance_alone = λ f h. refl }
