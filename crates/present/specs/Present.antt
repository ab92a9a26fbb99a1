-- Request 1, "Writing while boxes are away": what an accepted write leaves, where m is the pattern of lost columns and d the difference, byte by byte.
-- Assumes nothing.
use Rattle.std.specs.Prelude.{ℕ, ◌+◌, ◌*◌, ◌/◌, ◌%◌, List, get_or}
use Rattle.laws.specs.Bit.{bit, weight}
use Rattle.laws.specs.Choose.{choose}
use Rattle.laws.specs.Number.{put32}
use Rattle.laws.specs.Part.{put}
use Rattle.laws.specs.Patch.{patch}
use Rattle.laws.specs.Sum.{pick, total}
use Rattle.laws.specs.Xor.{◌⊕◌}
use Rattle.stripe.specs.declared.Params.{Params}
use Rattle.stripe.specs.Layout.{rows, column_length, revision_at, strip_at, parity_from}
use Rattle.block.specs.Touches.{touch_word}
use Rattle.pattern.specs.Pattern.{is_lost}
use Rattle.revision.specs.Revision.{renewed}

-- "only the present parity": the rows of parity column j that data strip (i, t) touches, none where the column is lost
unfoldable pub present_word : Params → ℕ → ℕ → ℕ → ℕ → ℕ
present_word q m i t j = choose (is_lost m (q.k + j)) 0 (touch_word q i t j)

-- byte o of the parity columns, with the difference added where (i, t) touches a present strip
unfoldable pub present_moved : List ℕ → Params → ℕ → ℕ → ℕ → (ℕ → ℕ) → ℕ → ℕ
present_moved s q m i t d o =
    get_or s (parity_from q + o) 0
    ⊕ pick (bit (present_word q m i t (o / column_length q)) (o % column_length q / q.b)) (d (o % column_length q % q.b))

-- the new strip in place; "Bytes of lost columns stay."
unfoldable pub present_placed : List ℕ → Params → ℕ → ℕ → ℕ → List ℕ → List ℕ
present_placed s q m i t v = choose (is_lost m i) s (put s (strip_at q i t) v)

-- parity, the strip, "and its revision"
unfoldable pub present_written : List ℕ → Params → ℕ → ℕ → ℕ → ℕ → List ℕ → (ℕ → ℕ) → List ℕ
present_written s q m i t b v d =
    put32 (present_placed (patch s (parity_from q) (q.r * column_length q) (present_moved s q m i t d)) q m i t v) (revision_at i) (renewed b)

-- "The count covers present parity strips only"
unfoldable pub present_count : Params → ℕ → ℕ → ℕ → ℕ
present_count q m i t = total q.r (λ j. weight (present_word q m i t j) (rows q))

-- "the number of present parity columns"
unfoldable pub present_parities : Params → ℕ → ℕ
present_parities q m = total q.r (λ j. choose (is_lost m (q.k + j)) 0 1)
