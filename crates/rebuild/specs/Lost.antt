-- "Lost columns": what rebuilding puts into them.
-- Assumes nothing.
use Rattle.std.specs.Prelude.{ℕ, ◌+◌, ◌-◌, ◌*◌, ◌/◌, ◌%◌, List, map, ltb, get_or}
use Rattle.laws.specs.Choose.{choose}
use Rattle.laws.specs.Bit.{weight}
use Rattle.laws.specs.Part.{table}
use Rattle.laws.specs.Patch.{patch}
use Rattle.algebra.specs.Column.{lane}
use Rattle.algebra.specs.Code.{none, decode}
use Rattle.algebra.specs.Recovery.{kept, freed}
use Rattle.stripe.specs.declared.Params.{Params}
use Rattle.stripe.specs.Layout.{rows, column_length, data_from, parity_from, data_byte, parity_byte}
use Rattle.block.specs.Parity.{due}
use Rattle.pattern.specs.Pattern.{is_lost, lost_marks, lost_exponents, present_exponents, consulted}

-- the polynomials of byte x of the consulted parity columns, and of the present data columns
unfoldable pub consulted_lanes : List ℕ → Params → ℕ → ℕ → List (ℕ → ℕ)
consulted_lanes s q m x = map (λ (j : ℕ). lane (rows q) (λ t. parity_byte s q j t x)) (consulted q m)

unfoldable pub present_lanes : List ℕ → Params → ℕ → ℕ → List (ℕ → ℕ)
present_lanes s q m x = kept (lost_marks q m) (table q.k (λ i. lane (rows q) (λ t. data_byte s q i t x)))

-- "They are found from the present data and the g lowest-numbered present parity columns": the polynomials of byte x of the lost data columns, solved
-- from the consulted parity freed of the present data
unfoldable pub recovered : List ℕ → Params → ℕ → ℕ → List (ℕ → ℕ)
recovered s q m x =
    decode (rows q) (consulted q m) (lost_exponents q m)
    (freed (rows q) (consulted q m) (consulted_lanes s q m x) (present_exponents q m) (present_lanes s q m x))

-- byte x of strip t of data column i, where a lost one is recovered: it is lost column number u, counted from 0, for the u lost ones below it
unfoldable pub whole_data : List ℕ → Params → ℕ → ℕ → ℕ → ℕ → ℕ
whole_data s q m i t x = choose (is_lost m i) (get_or (recovered s q m x) (weight m i) none t) (data_byte s q i t x)

-- "lost parity is then worked out from the data"
unfoldable pub whole_parity : List ℕ → Params → ℕ → ℕ → ℕ → ℕ → ℕ
whole_parity s q m j t x = choose (is_lost m (q.k + j)) (due q (whole_data s q m) j t x) (parity_byte s q j t x)

-- byte x of strip t of column n, data or parity
unfoldable pub whole_byte : List ℕ → Params → ℕ → ℕ → ℕ → ℕ → ℕ
whole_byte s q m n t x = choose (ltb n q.k) (whole_data s q m n t x) (whole_parity s q m (n - q.k) t x)

-- "Present bytes and all revisions stay."
unfoldable pub rebuilt : List ℕ → Params → ℕ → List ℕ
rebuilt s q m =
    patch
    (patch s (data_from q) (q.k * column_length q) (λ o. whole_data s q m (o / column_length q) (o % column_length q / q.b) (o % column_length q % q.b)))
    (parity_from q) (q.r * column_length q) (λ o. whole_parity s q m (o / column_length q) (o % column_length q / q.b) (o % column_length q % q.b))
