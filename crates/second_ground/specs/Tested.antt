-- The test of parameters, read from document 01 a second time: PRIME, SHAPE, STRIP.
-- Assumes nothing.
use Rattle.std.specs.Prelude.{Bool, ◌+◌, ◌&&◌, ◌==◌, if◌then◌else◌, nat_le, Result, Ok, Err}
use Rattle.std.specs.List.{list_any}
use Rattle.second_ground.specs.declared.TheConstants.{PRIMES}
use Rattle.second_ground.specs.declared.No.{No}
use Rattle.second_ground.specs.declared.No.TheVariants.{Prime, Strip}
use Rattle.second_ground.specs.declared.No.TheVariants.{Shape as Misshapen}
use Rattle.second_ground.specs.declared.Shape.{Shape}

-- k and r are at least 1, and k + r is at most p
abbrev pub fits : Shape → Bool
fits q = nat_le 1 q.k && nat_le 1 q.r && nat_le (q.k + q.r) q.p

-- b is from 1 to 512
abbrev pub admitted_strip : Shape → Bool
admitted_strip q = nat_le 1 q.b && nat_le q.b 512

-- the parameters, or the first refusal that is due
abbrev pub tested_of : Shape → Result Shape No
tested_of q =
    if list_any (λ p. p == q.p) PRIMES
    then (if fits q then (if admitted_strip q then Ok q else Err Strip) else Err Misshapen)
    else Err Prime
