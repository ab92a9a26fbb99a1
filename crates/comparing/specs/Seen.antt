-- How often each number of refusal was given.
-- Assumes nothing.
use Rattle.std.specs.Prelude.{ℕ, List, ◌+◌, ◌%◌, ◌^◌, length, if◌then◌else◌, nat_lt, slice_index, slice_set}

-- one more at a number; no more where it has no place
abbrev pub once_more : List ℕ → ℕ → List ℕ
once_more given refusal =
    if nat_lt refusal (length given) then slice_set given refusal ((slice_index given refusal + 1) % 2 ^ 64) else given
