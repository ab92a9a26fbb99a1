-- Where a place lies of the n places from at: the case split of every proof by bytes.
-- Assumes nothing.
use Prim.Native.Nat.{ℕ, ◌+◌, ◌-◌, ◌<◌, ◌≤◌}
use mathlib.Core.Path.{◌≡◌}
use native.Mathlib.Decide.{dec_lt}
use native.Mathlib.Omega.{arith}

-- where a place lies of the n places from at
pub data Place (at n o : ℕ) : Type 0 where
  before : o < at → Place at n o
  inside : (i : ℕ) → i < n → o ≡ at + i → Place at n o
  after : at + n ≤ o → Place at n o

pub place : (at n o : ℕ) → Place at n o
place at n o = go (dec_lt o at) (dec_lt o (at + n))
  where
    go : Dec (o < at) → Dec (o < at + n) → Place at n o
    go (yes h) d = before h
    go (no h) (yes g) = inside (o - at) (omega arith) (omega arith)
    go (no h) (no g) = after (omega arith)
