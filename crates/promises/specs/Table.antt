-- "Examples on the bench": P1 to P13 as one table. A row has what the definition that a call's contract cites gives, by document 01's numbers, and what
-- document 01 says. An answer is its refusal number (0 where there is none), then its values.
-- Assumes nothing.
use Rattle.std.specs.Prelude.{ℕ, List, [], ◌∷◌, ◌++◌, map, replicate, Result}
use Rattle.laws.specs.Part.{part}
use Rattle.laws.specs.Left.{Left}
use Rattle.laws.specs.Number.{put32}
use Rattle.algebra.specs.Word.{one}
use Rattle.ring.specs.Answer.{divide_answer}
use Rattle.stripe.specs.Examples.{example_image}
use Rattle.parity.specs.Answer.{make_of, check_of}
use Rattle.write.specs.Written.{write_of, written_numbers}
use Rattle.rebuild.specs.Answer.{rebuild_of}
use Rattle.refusal.specs.declared.Refusal.{Refusal}
use Rattle.refusal.specs.Number.{answer_number, answer_value}

pub record Row : Type 0 where
  pub given : List ℕ
  pub expected : List ℕ

-- I, "the image above"
abbrev pub I : List ℕ
I = example_image

-- make: the number, and n bytes from at of the image that it leaves in a buffer of l zeros
abbrev making : ℕ → ℕ → ℕ → List ℕ → (l at n : ℕ) → List ℕ
making p k r d l at n =
    let left : Left (Result (Unit {0}) Refusal) = make_of p k r 1 d (replicate l 0) in
    answer_number left.answer ∷ part left.image at n

-- rebuild: the number, and the image that is left
abbrev rebuilding : List ℕ → ℕ → List ℕ
rebuilding s m = answer_number (rebuild_of s m).answer ∷ (rebuild_of s m).image

-- write at row 1 of an image with strip 00: the number, the new revision, the count, and request 2's distance
abbrev writing : List ℕ → ℕ → ℕ → List ℕ
writing s column base = written_numbers (write_of s column 1 base (0 ∷ [])).answer

unfoldable pub bench : List Row
bench =
    -- P1 p=5: inverses of 1+x, 1+x^2, 1+x^3, 1+x^4 are x+x^3, x+x^2, x^3+x^4, x^2+x^4
    record { given = map (λ b. answer_value (divide_answer 5 (one 5) 0 b)) (1 ∷ 2 ∷ 3 ∷ 4 ∷ []); expected = 10 ∷ 6 ∷ 24 ∷ 20 ∷ [] }
    -- P2 p=3, k=1, r=1, data A5 0F: parity AA A5
    ∷ record { given = making 3 1 1 (165 ∷ 15 ∷ []) 24 22 2; expected = 0 ∷ 170 ∷ 165 ∷ [] }
    -- P3 p=3, k=1, r=2, data A5 0F: parity 0F AA and A5 0F
    ∷ record { given = making 3 1 2 (165 ∷ 15 ∷ []) 26 22 4; expected = 0 ∷ 15 ∷ 170 ∷ 165 ∷ 15 ∷ [] }
    -- P4 p=5, k=2, r=2, data 01 00 00 00 and 00 00 00 00: parity 01 00 01 00 and 01 01 01 00
    ∷ record { given = making 5 2 2 (1 ∷ 0 ∷ 0 ∷ 0 ∷ 0 ∷ 0 ∷ 0 ∷ 0 ∷ []) 40 32 8; expected = 0 ∷ 1 ∷ 0 ∷ 1 ∷ 0 ∷ 1 ∷ 1 ∷ 1 ∷ 0 ∷ [] }
    -- P5 I is right
    ∷ record { given = answer_number (check_of I) ∷ answer_value (check_of I) ∷ []; expected = 0 ∷ 0 ∷ [] }
    -- P6 I, pattern 3: I again
    ∷ record { given = rebuilding I 3; expected = 0 ∷ I }
    -- P7 pattern 7: MANY. P8 pattern 16: COLUMN
    ∷ record { given = rebuilding I 7; expected = 12 ∷ I }
    ∷ record { given = rebuilding I 16; expected = 8 ∷ I }
    -- P9 I, column 1, row 1, base 7, strip 00: revision 8, count 6, parity as in P4
    ∷ record { given = writing I 1 7 ++ part (write_of I 1 1 7 (0 ∷ [])).image 32 8; expected = 0 ∷ 8 ∷ 6 ∷ 0 ∷ 1 ∷ 0 ∷ 1 ∷ 0 ∷ 1 ∷ 1 ∷ 1 ∷ 0 ∷ [] }
    -- P10 the same with base 6: STALE, behind by 1. P11 base 8: AHEAD, by 1
    ∷ record { given = writing I 1 6; expected = 10 ∷ 0 ∷ 0 ∷ 1 ∷ [] }
    ∷ record { given = writing I 1 8; expected = 11 ∷ 0 ∷ 0 ∷ 1 ∷ [] }
    -- P12 revision 4294967295 with that base: new revision 0
    ∷ record { given = writing (put32 I 16 4294967295) 1 4294967295; expected = 0 ∷ 0 ∷ 6 ∷ 0 ∷ [] }
    -- P13 revision 0, base 4294967295: STALE, behind by 1
    ∷ record { given = writing I 0 4294967295; expected = 10 ∷ 0 ∷ 0 ∷ 1 ∷ [] }
    ∷ []
