-- What the inner functions ask and leave.
-- Assumes nothing.
use Rattle.std.specs.Prelude.{◌+◌, ◌<◌, ◌≤◌, ℕ, true, List, ◌≡◌, T, get_or, length}
use Rattle.stripe.specs.Layout.{image_length, rows}
use Rattle.stripe.specs.Reading.{Image}
use Rattle.pattern.specs.Inner.{Repairable}
use Rattle.stripe.specs.declared.Params.{Params}
use Rattle.rebuild.specs.Agrees.{AgreesOutside}
use Rattle.rebuild.specs.Answer.{column_strip_at}
use Rattle.pattern.specs.Pattern.{few_lost, is_lost}
use Rattle.rebuild.specs.Lost.{whole_byte}
use Rattle.recovery.specs.Words.{places}

-- x is where strip t of column n starts, and it ends within the image
pub record StripPlace (q : Params) (n t x : ℕ) : Type 0 where
  pub is : x ≡ column_strip_at q n t
  pub inside : x + q.b ≤ image_length q
  pub small : x + q.b ≤ 2000000

-- strip t of the lost column n of an accepted image, and room for it
pub record StripLost (s : List ℕ) (q : Params) (m n t : ℕ) (out : List ℕ) : Type 0 where
  pub image : Image s q
  pub few : T (few_lost q m)
  pub column : n < q.k + q.r
  pub away : is_lost m n ≡ true
  pub row : t < rows q
  pub room : length out ≡ q.b

-- an accepted image, the places of the pattern, and room for a strip
pub record Prepared (s : List ℕ) (q : Params) (m : ℕ) (ats out : List ℕ) : Type 0 where
  pub image : Image s q
  pub repairable : Repairable q m
  pub ats_are : ats ≡ places q m
  pub room : length out ≡ q.b

-- t is s with the first v strips of column n in place, if it is lost: nothing before the column, and nothing outside lost columns, has changed
pub record ColumnFilled (s t : List ℕ) (q : Params) (m n v : ℕ) : Type 0 where
  pub agrees : AgreesOutside s t q m
  pub below : (o : ℕ) → o < column_strip_at q n 0 → get_or t o 0 ≡ get_or s o 0
  pub done : is_lost m n ≡ true → (u x : ℕ) → u < v → x < q.b → get_or t (column_strip_at q n u + x) 0 ≡ whole_byte s q m n u x
