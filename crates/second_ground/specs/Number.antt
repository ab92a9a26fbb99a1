-- The numbers of refusal, read from the documents a second time.
-- Assumes nothing.
use Rattle.std.specs.Prelude.{ℕ}
use Rattle.second_ground.specs.declared.No.{No}
use Rattle.second_ground.specs.declared.No.TheVariants.{Cut, Tail, Count, Prime, Shape, Strip, Width, Column, Row, Stale, Ahead, Many, Room, Long, Exponent, Element, Unclear}

abbrev pub number_of : No → ℕ
number_of Cut = 1
number_of Tail = 2
number_of Count = 3
number_of Prime = 4
number_of Shape = 5
number_of Strip = 6
number_of Width = 7
number_of Column = 8
number_of Row = 9
number_of Stale = 10
number_of Ahead = 11
number_of Many = 12
number_of Room = 13
number_of Long = 14
number_of Exponent = 15
number_of Element = 16
number_of Unclear = 17
