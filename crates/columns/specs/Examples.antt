-- Column files of the image I of document 01, written by hand from request 4: the files of two columns, the image of both, and files that are refused.
-- Assumes nothing.
use Rattle.std.specs.Prelude.{ℕ, List, [], ◌∷◌, ◌++◌, take, set}
use Rattle.refusal.specs.declared.Refusal.{Refusal}
use Rattle.refusal.specs.declared.Refusal.TheVariants.{Cut, Count, Prime, Shape, Strip, Column, Foreign, Twice, Room}

-- column 1, data: revision 7, strips 00 02 00 00
abbrev pub data_file : List ℕ
data_file = 6 ∷ 0 ∷ 5 ∷ 0 ∷ 2 ∷ 0 ∷ 2 ∷ 0 ∷ 1 ∷ 0 ∷ 1 ∷ 0 ∷ 0 ∷ 0 ∷ 1 ∷ 0 ∷ 7 ∷ 0 ∷ 0 ∷ 0 ∷ 4 ∷ 0 ∷ 0 ∷ 2 ∷ 0 ∷ 0 ∷ []

-- column 3, parity 1: no revision, strips 03 03 03 00
abbrev pub parity_file : List ℕ
parity_file = 6 ∷ 0 ∷ 5 ∷ 0 ∷ 2 ∷ 0 ∷ 2 ∷ 0 ∷ 1 ∷ 0 ∷ 3 ∷ 0 ∷ 1 ∷ 0 ∷ 0 ∷ 0 ∷ 4 ∷ 0 ∷ 3 ∷ 3 ∷ 3 ∷ 0 ∷ []

-- I with columns 1 and 3 alone
abbrev pub both_image : List ℕ
both_image =
    4 ∷ 0 ∷ 5 ∷ 0 ∷ 2 ∷ 0 ∷ 2 ∷ 0 ∷ 1 ∷ 0 ∷
    2 ∷ 0 ∷ 0 ∷ 0 ∷ 0 ∷ 0 ∷ 7 ∷ 0 ∷ 0 ∷ 0 ∷
    2 ∷ 0 ∷ 0 ∷ 0 ∷ 0 ∷ 0 ∷ 0 ∷ 2 ∷ 0 ∷ 0 ∷
    2 ∷ 0 ∷ 0 ∷ 0 ∷ 0 ∷ 0 ∷ 3 ∷ 3 ∷ 3 ∷ 0 ∷ []

-- each with its refusal, where the lent image has 39 bytes
abbrev pub refused_examples : List (List ℕ × Refusal)
refused_examples =
    -- "CUT below 2 bytes (also for no file at all), section one's COUNT, CUT below 14"
    ([], Cut) ∷
    (6 ∷ [], Cut) ∷
    (5 ∷ 0 ∷ [], Count) ∷
    (take 13 data_file, Cut) ∷
    -- "PRIME, SHAPE, STRIP, COLUMN for n not below k+r"
    (set data_file 2 9, Prime) ∷
    (set data_file 4 0, Shape) ∷
    (set data_file 8 0, Strip) ∷
    (set data_file 10 4, Column) ∷
    -- "18 FOREIGN for parameters unlike the first file's or a flag wrong for n", before what is cut
    (parity_file ++ set data_file 8 2, Foreign) ∷
    (set (take 14 data_file) 12 1, Foreign) ∷
    -- "19 TWICE for a column met again, CUT, the other counts"
    (data_file ++ take 14 data_file, Twice) ∷
    (take 25 data_file, Cut) ∷
    (set (take 25 data_file) 14 0, Cut) ∷
    (set data_file 14 0, Count) ∷
    (set data_file 20 5, Count) ∷
    -- a byte after the last file starts another
    (data_file ++ (6 ∷ []), Cut) ∷
    -- "after all files, ROOM for an image not of L bytes": the lent image has 39
    (parity_file ++ data_file, Room) ∷
    []
