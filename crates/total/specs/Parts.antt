-- Parts of lists that may reach beyond an end, and lists that are changed as far as another one goes.
-- Assumes nothing.
use Rattle.std.specs.Prelude.{ℕ, Bool, List, [], ◌+◌, ◌<◌, ◌&&◌, ◌||◌, length, if◌then◌else◌, nat_le, slice_range, slice_index_or}
use Rattle.std.specs.List.{SameBelow, SameFrom}

-- the n items at a place; none where they do not all lie within
abbrev pub part_of : {X : Type 0} → List X → ℕ → ℕ → List X
part_of xs at n = if nat_le (at + n) (length xs) then slice_range xs at (at + n) else []

-- of the items below n, each is what adding gives of those that stood at its place
abbrev pub AddedBelow : {X : Type 0} → (X → X → X → Type 0) → List X → List X → List X → ℕ → Type 0
AddedBelow {X} gives old from new n =
    (k : ℕ) (d : X) → k < n → k < length old → k < length from
    → gives (slice_index_or old k d) (slice_index_or from k d) (slice_index_or new k d)

-- from is added to old as far as both go, and the items beyond stay
abbrev pub Added : {X : Type 0} → (X → X → X → Type 0) → List X → List X → List X → Type 0
Added gives old from new = AddedBelow gives old from new (length from) × SameFrom old new (length from)

-- the n items at two places of a list so long all lie within it and do not overlap
abbrev pub are_apart : ℕ → ℕ → ℕ → ℕ → Bool
are_apart len to from n =
    nat_le (to + n) len && nat_le (from + n) len && (nat_le (to + n) from || nat_le (from + n) to)

-- the n items at one place are added to those at another, and all others stay
abbrev pub AddedWithin : {X : Type 0} → (X → X → X → Type 0) → List X → List X → ℕ → ℕ → ℕ → Type 0
AddedWithin {X} gives old new to from n =
    ((k : ℕ) (d : X) → k < n
    → gives (slice_index_or old (to + k) d) (slice_index_or old (from + k) d) (slice_index_or new (to + k) d))
    × SameBelow old new to
    × SameFrom old new (to + n)
