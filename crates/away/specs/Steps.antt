-- What the inner functions of a write with lost columns ask for, and what they leave.
-- Assumes nothing.
use Rattle.std.specs.Prelude.{ℕ, true, List, ◌≡◌}
use Rattle.laws.specs.Part.{put, tab}
use Rattle.pattern.specs.Pattern.{few_lost}
use Rattle.rebuild.specs.Lost.{whole_byte}
use Rattle.present.specs.declared.Spot.{Spot}
use Rattle.present.specs.Present.{present_placed, present_count}
use Rattle.present.specs.Steps.{spot_at, parity_moved, Target}
use Rattle.away.specs.Away.{away_difference}

-- a data strip of an accepted image, as many bytes as it has, and no more columns lost than there are parity columns
pub record Away (s : List ℕ) (spot : Spot) (v : List ℕ) : Type 0 where
  pub target : Target s spot v
  pub few : few_lost spot.q spot.lost ≡ true

-- s with a strip of a lost data column as a rebuild would have it
unfoldable pub restored_in : List ℕ → Spot → List ℕ
restored_in s spot = put s (spot_at spot) (tab spot.q.b (whole_byte s spot.q spot.lost spot.column spot.row))

-- s is now u, but for the revision: present parity has moved by the difference between a data strip and v, v is in place where its column is present, and
-- x is the count
pub record AwayPlaced (s u : List ℕ) (spot : Spot) (v : List ℕ) (x : ℕ) : Type 0 where
  pub counted : x ≡ present_count spot.q spot.lost spot.column spot.row
  pub bytes : u ≡ present_placed (parity_moved s spot (away_difference s spot.q spot.lost spot.column spot.row v)) spot.q spot.lost spot.column spot.row v
