-- Examples of document 01: images and parameters, with what their reading and their test give: the number of a refusal or 0, then p, k, r, B.
-- Assumes nothing.
use Rattle.std.specs.Prelude.{ℕ, List, [], ◌∷◌, ◌++◌, take, set}
use Rattle.refusal.specs.declared.Refusal.{Refusal}
use Rattle.refusal.specs.declared.Refusal.TheVariants.{Cut, Tail, Count, Prime, Shape, Strip}
use Rattle.refusal.specs.Number.{number_of}
use Rattle.stripe.specs.declared.Params.{Params}

-- "I is the image above"
abbrev pub example_image : List ℕ
example_image =
    4 ∷ 0 ∷ 5 ∷ 0 ∷ 2 ∷ 0 ∷ 2 ∷ 0 ∷ 1 ∷ 0 ∷
    2 ∷ 0 ∷ 0 ∷ 0 ∷ 0 ∷ 0 ∷ 7 ∷ 0 ∷ 0 ∷ 0 ∷
    2 ∷ 0 ∷ 1 ∷ 0 ∷ 0 ∷ 0 ∷ 0 ∷ 2 ∷ 0 ∷ 0 ∷
    2 ∷ 0 ∷ 3 ∷ 0 ∷ 3 ∷ 2 ∷ 3 ∷ 3 ∷ 3 ∷ 0 ∷ []

abbrev pub example_params : Params
example_params = record { p = 5; k = 2; r = 2; b = 1 }

-- "every number beside it is 0"
abbrev pub refused_as : Refusal → List ℕ
refused_as e = number_of e ∷ 0 ∷ 0 ∷ 0 ∷ 0 ∷ []

abbrev pub reading_examples : List (List ℕ × List ℕ)
reading_examples =
    (example_image, 0 ∷ 5 ∷ 2 ∷ 2 ∷ 1 ∷ []) ∷
    -- "I less one byte CUT, with one more TAIL"
    (take 39 example_image, refused_as Cut) ∷
    (example_image ++ (0 ∷ []), refused_as Tail) ∷
    -- each later count, one more
    (set example_image 10 3, refused_as Count) ∷
    (set example_image 20 3, refused_as Count) ∷
    (set example_image 30 3, refused_as Count) ∷
    -- "at least 2 bytes, else CUT; first count, else COUNT; at least 10 bytes, else CUT"
    ([], refused_as Cut) ∷
    (4 ∷ [], refused_as Cut) ∷
    (3 ∷ 0 ∷ [], refused_as Count) ∷
    (4 ∷ 0 ∷ 9 ∷ 0 ∷ 0 ∷ 0 ∷ 0 ∷ 0 ∷ 0 ∷ [], refused_as Cut) ∷
    -- "PRIME; SHAPE; STRIP"
    (4 ∷ 0 ∷ 9 ∷ 0 ∷ 0 ∷ 0 ∷ 1 ∷ 0 ∷ 0 ∷ 0 ∷ [], refused_as Prime) ∷
    (4 ∷ 0 ∷ 5 ∷ 0 ∷ 0 ∷ 0 ∷ 1 ∷ 0 ∷ 0 ∷ 0 ∷ [], refused_as Shape) ∷
    (4 ∷ 0 ∷ 5 ∷ 0 ∷ 1 ∷ 0 ∷ 1 ∷ 0 ∷ 0 ∷ 0 ∷ [], refused_as Strip) ∷
    []

abbrev pub params_examples : List (Params × List ℕ)
params_examples =
    -- "p=61 with k=60, r=1 accepted, r=2 SHAPE"
    (record { p = 61; k = 60; r = 1; b = 512 }, 0 ∷ 61 ∷ 60 ∷ 1 ∷ 512 ∷ []) ∷
    (record { p = 61; k = 60; r = 2; b = 1 }, refused_as Shape) ∷
    -- "p=2, 9, 67 PRIME"
    (record { p = 2; k = 1; r = 1; b = 1 }, refused_as Prime) ∷
    (record { p = 9; k = 1; r = 1; b = 1 }, refused_as Prime) ∷
    (record { p = 67; k = 1; r = 1; b = 1 }, refused_as Prime) ∷
    -- "B=512 accepted, 513 STRIP"
    (record { p = 61; k = 60; r = 1; b = 513 }, refused_as Strip) ∷
    -- the largest k, whose sum with r does not fit 64 bits
    (record { p = 61; k = 18446744073709551615; r = 1; b = 1 }, refused_as Shape) ∷
    []
