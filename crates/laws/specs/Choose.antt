-- Choices by a test, and tests over every number below a bound.
-- Assumes nothing.
use Rattle.std.specs.Prelude.{ℕ, zero, suc, Bool, true, false, ◌&&◌}

-- the first where the test holds, else the second
abbrev pub choose : {A : Type 0} → Bool → A → A → A
choose true a b = a
choose false a b = b

unfoldable pub implies : Bool → Bool → Bool
implies true b = b
implies false b = true

-- the test holds at each number below n
unfoldable pub below : ℕ → (ℕ → Bool) → Bool
below zero f = true
below (suc n) f = f n && below n f
