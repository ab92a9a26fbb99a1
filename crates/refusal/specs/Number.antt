-- "Numbers of refusal": the table of document 01. "A refusal carries its number"; 0 is kept for an answer that is none.
-- Assumes nothing.
use Rattle.std.specs.Prelude.{ℕ, Result, Ok, Err}
use Rattle.refusal.specs.declared.Refusal.{Refusal}
use Rattle.refusal.specs.declared.Refusal.TheVariants.{Cut, Tail, Count, Prime, Shape, Strip, Width, Column, Row, Stale, Ahead, Many, Room, Long, Exponent, Element, Unclear, Foreign, Twice}

abbrev pub number_of : Refusal → ℕ
-- image too short
number_of Cut = 1
-- image too long
number_of Tail = 2
-- a section's count is not the due one
number_of Count = 3
-- p not an odd prime from 3 to 61
number_of Prime = 4
-- k = 0, r = 0 or k+r above p
number_of Shape = 5
-- B = 0 or above 512
number_of Strip = 6
-- data or new strip of wrong length
number_of Width = 7
-- write: column not below k; pattern or shown column not below k+r
number_of Column = 8
-- row not below p-1
number_of Row = 9
-- base older
number_of Stale = 10
-- base newer
number_of Ahead = 11
-- more than r columns lost
number_of Many = 12
-- make: buffer not L bytes; scratch below B
number_of Room = 13
-- report program only: input above 65,536 bytes
number_of Long = 14
-- a or b not below p, or a = b
number_of Exponent = 15
-- a word with odd weight or a bit at p or above
number_of Element = 16
-- request 3: "The exact half gets a refusal of its own"
number_of Unclear = 17
-- request 4: "parameters unlike the first file's or a flag wrong for n"
number_of Foreign = 18
-- request 4: "a column met again"
number_of Twice = 19

-- "A refusal carries its number; every number beside it is 0": the number of an answer, and the word or the length that it gives
abbrev pub answer_number : {A : Type 0} → Result A Refusal → ℕ
answer_number (Ok x) = 0
answer_number (Err e) = number_of e

abbrev pub answer_value : Result ℕ Refusal → ℕ
answer_value (Ok x) = x
answer_value (Err e) = 0
