-- How long the parts of an image are, by sizes of 64 bits that wrap.
-- Assumes nothing.
use Rattle.std.specs.Prelude.{ℕ, ◌-◌, ◌*◌, ◌%◌, ◌^◌}
use Rattle.second_ground.specs.declared.Shape.{Shape}

-- the bytes of a column: p-1 strips of b
abbrev pub column_size : Shape → ℕ
column_size q = (q.p - 1) * q.b % 2 ^ 64
