-- Words of 64 bits as patterns: one bit, and all bits below one.
-- Assumes nothing.
use Rattle.std.specs.Prelude.{ℕ, ◌-◌, ◌^◌, if◌then◌else◌, nat_lt}

-- bit i alone; no bit where a word has none there
abbrev pub one_at : ℕ → ℕ
one_at i = if nat_lt i 64 then 2 ^ i else 0

-- the bits below n, all of a word for n of 64 and above
abbrev pub ones_below : ℕ → ℕ
ones_below n = if nat_lt n 64 then 2 ^ n - 1 else 2 ^ 64 - 1
