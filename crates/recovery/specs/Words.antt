-- The words by which a lost column is a sum of word · column over the columns that it is found from: first the g consulted parity columns, then the
-- present data. xs are the exponents of the consulted parity columns, ys those of the lost data columns, zs those of the present data columns.
-- Assumes nothing.
use Rattle.std.specs.Prelude.{ℕ, ◌-◌, List, ◌++◌, map, ltb, length}
use Rattle.laws.specs.Bit.{weight}
use Rattle.laws.specs.Choose.{choose}
use Rattle.laws.specs.Part.{table}
use Rattle.laws.specs.Xor.{◌⊕◌}
use Rattle.algebra.specs.Recovery.{entry_of, words_of, composed_of, with}
use Rattle.algebra.specs.Word.{inverse_of}
use Rattle.stripe.specs.Layout.{data_at, parity_at}
use Rattle.stripe.specs.declared.Params.{Params}
use Rattle.pattern.specs.Pattern.{consulted, lost_exponents, present_exponents}

-- row u of the recovery matrix
unfoldable pub matrix_row : ℕ → List ℕ → List ℕ → ℕ → List ℕ
matrix_row p xs ys u = table (length ys) (λ v. entry_of p xs ys u v)

-- the row of a lost parity column j: the rows of the lost data columns, each divided by x^j + x^y, added up
unfoldable pub parity_row : ℕ → List ℕ → List ℕ → ℕ → List ℕ
parity_row p xs ys j = composed_of p j ys (length ys) (table (length ys) (matrix_row p xs ys))

-- the row ms of a lost column, and what it takes by this row of each present data column
unfoldable pub row_words : ℕ → List ℕ → List ℕ → List ℕ → List ℕ
row_words p xs zs ms = ms ++ words_of p xs ms zs

-- a lost data column, number u of the lost ones
unfoldable pub data_words : ℕ → List ℕ → List ℕ → List ℕ → ℕ → List ℕ
data_words p xs ys zs u = row_words p xs zs (matrix_row p xs ys u)

-- a lost parity column j, which takes of the present data by itself too
unfoldable pub parity_words : ℕ → List ℕ → List ℕ → List ℕ → ℕ → List ℕ
parity_words p xs ys zs j = parity_row p xs ys j ++ with ◌⊕◌ (words_of p xs (parity_row p xs ys j) zs) (map (inverse_of p j) zs)

-- the exponents of the columns that lost ones are found from
unfoldable pub sources : Params → ℕ → List ℕ
sources q m = consulted q m ++ present_exponents q m

-- where the column of an exponent starts: x^j is parity j, and x^(r+i) is data column i
unfoldable pub place_of : Params → ℕ → ℕ
place_of q x = choose (ltb x q.r) (parity_at q x) (data_at q (x - q.r))

-- where these columns start
unfoldable pub places : Params → ℕ → List ℕ
places q m = map (parity_at q) (consulted q m) ++ map (λ (z : ℕ). data_at q (z - q.r)) (present_exponents q m)

-- the words of lost column n
unfoldable pub column_words : Params → ℕ → ℕ → List ℕ
column_words q m n =
    choose (ltb n q.k)
    (data_words q.p (consulted q m) (lost_exponents q m) (present_exponents q m) (weight m n))
    (parity_words q.p (consulted q m) (lost_exponents q m) (present_exponents q m) (n - q.k))
