-- What the inner functions of a move of parity ask for, and what they leave.
-- Assumes nothing.
use Rattle.std.specs.Prelude.{ℕ, ◌*◌, ◌<◌, List, ◌≡◌, length, get_or}
use Rattle.laws.specs.Bit.{weight}
use Rattle.laws.specs.Patch.{Patched, patch}
use Rattle.laws.specs.Sum.{total}
use Rattle.stripe.specs.Layout.{rows, column_length, parity_from, strip_at}
use Rattle.stripe.specs.Params.{Admitted}
use Rattle.stripe.specs.Reading.{Image}
use Rattle.present.specs.Present.{present_word, present_moved}
use Rattle.present.specs.declared.Spot.{Spot}

-- where a data strip starts
abbrev pub spot_at : Spot → ℕ
spot_at spot = strip_at spot.q spot.column spot.row

-- s with a difference added to each present parity strip that a data strip touches
abbrev pub parity_moved : List ℕ → Spot → (ℕ → ℕ) → List ℕ
parity_moved s spot d = patch s (parity_from spot.q) (spot.q.r * column_length spot.q) (present_moved s spot.q spot.lost spot.column spot.row d)

-- a data strip and a parity column j
pub record Crossing (spot : Spot) (j : ℕ) : Type 0 where
  pub admitted : Admitted spot.q
  pub column : spot.column < spot.q.k
  pub row : spot.row < rows spot.q
  pub parity : j < spot.q.r

-- a data strip of an accepted image, and as many bytes as it has
pub record Target (s : List ℕ) (spot : Spot) (v : List ℕ) : Type 0 where
  pub accepted : Image s spot.q
  pub column : spot.column < spot.q.k
  pub row : spot.row < rows spot.q
  pub width : length v ≡ spot.q.b

-- byte x of a strip
abbrev pub strip_byte : List ℕ → ℕ → ℕ
strip_byte d x = get_or d x 0

-- s is now u: the strip d was added to the strips of the first n parity columns that a data strip touches, none of a lost column, and x is how many these are
pub record Shifted (s u : List ℕ) (spot : Spot) (d : List ℕ) (n x : ℕ) : Type 0 where
  pub counted : x ≡ total n (λ j. weight (present_word spot.q spot.lost spot.column spot.row j) (rows spot.q))
  pub bytes : Patched s u (parity_from spot.q) (n * column_length spot.q) (present_moved s spot.q spot.lost spot.column spot.row (strip_byte d))
