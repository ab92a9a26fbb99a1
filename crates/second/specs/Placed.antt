-- Where and how wide a write to an accepted image may be: COLUMN, ROW, WIDTH.
-- Assumes nothing.
use Rattle.std.specs.Prelude.{◌-◌, ◌==◌, length, if◌then◌else◌, nat_lt, Result, Ok, Err}
use Rattle.second_ground.specs.declared.No.{No}
use Rattle.second_ground.specs.declared.No.TheVariants.{Column, Row, Width}
use Rattle.second_ground.specs.declared.Note.{Note}
use Rattle.second_ground.specs.declared.Shape.{Shape}

-- nothing, or the first refusal that is due
abbrev pub placed_of : Shape → Note → Result Unit No
placed_of q note =
    if nat_lt note.column q.k
    then (if nat_lt note.row (q.p - 1) then (if length note.strip.now == q.b then Ok tt else Err Width) else Err Row)
    else Err Column
