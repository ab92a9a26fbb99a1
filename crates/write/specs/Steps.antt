-- What a write and its inner functions ask for, and what each leaves.
-- Assumes nothing.
use Rattle.std.specs.Prelude.{ℕ, ◌+◌, ◌<◌, ◌≤◌, List, ◌≡◌, length, get_or, Result, Ok}
use Rattle.laws.specs.Left.{Left}
use Rattle.laws.specs.Number.{put32}
use Rattle.laws.specs.Part.{put}
use Rattle.laws.specs.Xor.{◌⊕◌}
use Rattle.stripe.specs.declared.Params.{Params}
use Rattle.stripe.specs.Layout.{data_count_at, data_from, parity_count_at, parity_from, revision_at}
use Rattle.present.specs.declared.Spot.{Spot}
use Rattle.present.specs.Present.{present_count}
use Rattle.revision.specs.Revision.{renewed}
use Rattle.present.specs.Steps.{spot_at, parity_moved}
use Rattle.write.specs.Written.{difference}
use Rattle.write.specs.declared.Accepted.{Accepted}
use Rattle.write.specs.declared.Refused.{Refused}

-- a strip at a place of an image, a strip, and a buffer, of one length
pub record Strips (s : List ℕ) (at : ℕ) (v out : List ℕ) : Type 0 where
  pub there : at + length v ≤ length s
  pub same : length out ≡ length v

-- byte x of the difference between the strip at a place of s and the strip v
unfoldable pub differed : List ℕ → ℕ → List ℕ → ℕ → ℕ
differed s at v x = get_or s (at + x) 0 ⊕ get_or v x 0

-- s is now u: parity has moved by the difference between a data strip and v, but for lost columns, and x is the count
pub record Moved (s u : List ℕ) (spot : Spot) (v : List ℕ) (x : ℕ) : Type 0 where
  pub counted : x ≡ present_count spot.q spot.lost spot.column spot.row
  pub bytes : u ≡ parity_moved s spot (difference s spot.q spot.column spot.row v)

-- s is now u: the strip v is in its place too
pub record Placed (s u : List ℕ) (spot : Spot) (v : List ℕ) (x : ℕ) : Type 0 where
  pub counted : x ≡ present_count spot.q spot.lost spot.column spot.row
  pub bytes : u ≡ put (parity_moved s spot (difference s spot.q spot.column spot.row v)) (spot_at spot) v

-- what is left where s has all but the revision of column i, and x is the count
unfoldable pub settled : List ℕ → ℕ → ℕ → ℕ → Left (Result Accepted Refused)
settled s i b x = record { answer = Ok (record { revision = renewed b; count = x }); image = put32 s (revision_at i) (renewed b) }

-- u has the length of s, and its bytes before the revisions and at the counts of sections 3 and 4
pub record Kept (q : Params) (s u : List ℕ) : Type 0 where
  pub len : length u ≡ length s
  pub front : (o : ℕ) → o < 12 → get_or u o 0 ≡ get_or s o 0
  pub middle : (o : ℕ) → data_count_at q ≤ o → o < data_from q → get_or u o 0 ≡ get_or s o 0
  pub back : (o : ℕ) → parity_count_at q ≤ o → o < parity_from q → get_or u o 0 ≡ get_or s o 0
