-- "Lost columns": what a pattern names, which columns are consulted, and what is refused.
-- Assumes nothing.
use Rattle.std.specs.Prelude.{ℕ, ◌+◌, ◌^◌, Bool, ◌&&◌, List, eqb, ltb, leb, take, Result, Ok, Err}
use Rattle.laws.specs.Choose.{choose}
use Rattle.laws.specs.Bit.{bit, weight}
use Rattle.laws.specs.Part.{table}
use Rattle.algebra.specs.Recovery.{lost, kept}
use Rattle.refusal.specs.declared.Refusal.TheVariants.{Column, Row, Many, Room}
use Rattle.stripe.specs.declared.Params.{Params}
use Rattle.stripe.specs.Layout.{rows}
use Rattle.stripe.specs.Reading.{read_of}
use Rattle.refusal.specs.declared.Refusal.{Refusal}

-- "a 64-bit pattern, bit n for lost column n"
abbrev pub is_lost : ℕ → ℕ → Bool
is_lost m n = eqb (bit m n) 1

-- which data columns are lost, and which parity columns
abbrev pub lost_marks : Params → ℕ → List Bool
lost_marks q m = table q.k (λ i. is_lost m i)

abbrev pub parity_marks : Params → ℕ → List Bool
parity_marks q m = table q.r (λ j. is_lost m (q.k + j))

-- "Let g data columns be lost."
abbrev pub lost_count : Params → ℕ → ℕ
lost_count q m = weight m q.k

-- the exponents r + i of the data columns; of the lost ones, and of the present ones
abbrev pub data_exponents : Params → List ℕ
data_exponents q = table q.k (λ i. q.r + i)

unfoldable pub lost_exponents : Params → ℕ → List ℕ
lost_exponents q m = lost (lost_marks q m) (data_exponents q)

unfoldable pub present_exponents : Params → ℕ → List ℕ
present_exponents q m = kept (lost_marks q m) (data_exponents q)

-- "the g lowest-numbered present parity columns"
unfoldable pub consulted : Params → ℕ → List ℕ
consulted q m = take (lost_count q m) (kept (parity_marks q m) (table q.r (λ j. j)))

-- "pattern .. not below k+r" is COLUMN
unfoldable pub pattern_fits : Params → ℕ → Bool
pattern_fits q m = ltb m (2 ^ (q.k + q.r))

-- "more than r columns lost" is MANY
unfoldable pub few_lost : Params → ℕ → Bool
few_lost q m = leb (weight m (q.k + q.r)) q.r

-- "Restore one strip and show: pattern, column, row, scratch. Order for both: reading, COLUMN, ROW, MANY, ROOM.": the parameters where all is sound
unfoldable pub asked_read : ℕ → ℕ → ℕ → ℕ → Result Params Refusal → Result Params Refusal
asked_read m n t room (Ok q) =
    choose (pattern_fits q m && ltb n (q.k + q.r))
    (choose (ltb t (rows q)) (choose (few_lost q m) (choose (leb q.b room) (Ok q) (Err Room)) (Err Many)) (Err Row))
    (Err Column)
asked_read m n t room (Err e) = Err e

unfoldable pub asked : List ℕ → ℕ → ℕ → ℕ → ℕ → Result Params Refusal
asked s m n t room = asked_read m n t room (read_of s)
