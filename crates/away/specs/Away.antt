-- Request 1, "Writing while boxes are away": "A write now also takes a pattern of lost columns." What it answers, and the image that it leaves.
-- Assumes nothing.
use Rattle.std.specs.Prelude.{ℕ, ◌&&◌, List, length, get_or, ltb, eqb, Result, Ok, Err}
use Rattle.laws.specs.Left.{Left}
use Rattle.laws.specs.Choose.{choose}
use Rattle.laws.specs.Xor.{◌⊕◌}
use Rattle.refusal.specs.declared.Refusal.TheVariants.{Width, Column, Row, Many}
use Rattle.stripe.specs.declared.Params.{Params}
use Rattle.stripe.specs.Layout.{rows, revision_of}
use Rattle.stripe.specs.Reading.{read_of}
use Rattle.pattern.specs.Pattern.{pattern_fits, few_lost}
use Rattle.rebuild.specs.Lost.{whole_data}
use Rattle.revision.specs.declared.Age.{Age}
use Rattle.revision.specs.Revision.{judged, renewed}
use Rattle.present.specs.Present.{present_written, present_count}
use Rattle.write.specs.Written.{by_age}
use Rattle.refusal.specs.declared.Refusal.{Refusal}
use Rattle.write.specs.declared.Accepted.{Accepted}
use Rattle.write.specs.declared.Refused.{Refused}
use Rattle.write.specs.declared.Refused.TheVariants.{Other}

-- "If the written column itself is lost, its old strip is restored first": byte x of the difference between strip (i, t) and the new strip v
unfoldable pub away_difference : List ℕ → Params → ℕ → ℕ → ℕ → List ℕ → ℕ → ℕ
away_difference s q m i t v x = whole_data s q m i t x ⊕ get_or v x 0

-- "and only the present parity and its revision move. Bytes of lost columns stay."
unfoldable pub away_written : List ℕ → Params → ℕ → ℕ → ℕ → ℕ → List ℕ → List ℕ
away_written s q m i t b v = present_written s q m i t b v (away_difference s q m i t v)

-- "then STALE or AHEAD" or UNCLEAR; an accepted write's "count covers present parity strips only"
unfoldable pub away_judged : List ℕ → Params → ℕ → ℕ → ℕ → ℕ → List ℕ → Age → Left (Result Accepted Refused)
away_judged s q m i t b v = by_age s (record { answer = Ok (record { revision = renewed b; count = present_count q m i t }); image = away_written s q m i t b v })

-- "COLUMN, ROW, WIDTH", where "pattern bits join COLUMN; MANY stands after WIDTH and before STALE"
unfoldable pub away_sound : List ℕ → ℕ → ℕ → ℕ → ℕ → List ℕ → Params → Left (Result Accepted Refused)
away_sound s m i t b v q =
    choose (pattern_fits q m && ltb i q.k)
    (choose (ltb t (rows q))
    (choose (eqb (length v) q.b)
    (choose (few_lost q m)
    (away_judged s q m i t b v (judged (revision_of s i) b))
    (record { answer = Err (Other Many); image = s }))
    (record { answer = Err (Other Width); image = s }))
    (record { answer = Err (Other Row); image = s }))
    (record { answer = Err (Other Column); image = s })

-- "Order: reading"
unfoldable pub away_read : List ℕ → ℕ → ℕ → ℕ → ℕ → List ℕ → Result Params Refusal → Left (Result Accepted Refused)
away_read s m i t b v (Ok q) = away_sound s m i t b v q
away_read s m i t b v (Err e) = record { answer = Err (Other e); image = s }

unfoldable pub away_of : List ℕ → ℕ → ℕ → ℕ → ℕ → List ℕ → Left (Result Accepted Refused)
away_of s m i t b v = away_read s m i t b v (read_of s)
