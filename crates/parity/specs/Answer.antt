-- What make, refill and check answer, and what they leave.
-- Assumes nothing.
use Rattle.std.specs.Prelude.{ℕ, ◌+◌, ◌*◌, ◌/◌, ◌%◌, Bool, List, length, get_or, eqb, Result, Ok, Err}
use Rattle.laws.specs.Left.{Left}
use Rattle.laws.specs.Choose.{choose, below}
use Rattle.laws.specs.Bit.{pack}
use Rattle.refusal.specs.declared.Refusal.TheVariants.{Width, Room}
use Rattle.stripe.specs.declared.Params.{Params}
use Rattle.stripe.specs.Params.{checked_of}
use Rattle.stripe.specs.Layout.{column_length, image_length, parity_at, data_byte}
use Rattle.stripe.specs.Reading.{read_of}
use Rattle.block.specs.Parity.{due, refilled}
use Rattle.parity.specs.Make.{made}
use Rattle.refusal.specs.declared.Refusal.{Refusal}

-- "Order: PRIME, SHAPE, STRIP, WIDTH, ROOM."; "no lent byte changes"
unfoldable pub make_sound : List ℕ → List ℕ → Params → Left (Result (Unit {0}) Refusal)
make_sound d s q =
    choose (eqb (length d) (q.k * column_length q))
    (choose (eqb (length s) (image_length q))
    (record { answer = Ok tt; image = made q d })
    (record { answer = Err Room; image = s }))
    (record { answer = Err Width; image = s })

unfoldable pub make_checked : List ℕ → List ℕ → Result Params Refusal → Left (Result (Unit {0}) Refusal)
make_checked d s (Ok q) = make_sound d s q
make_checked d s (Err e) = record { answer = Err e; image = s }

unfoldable pub make_of : ℕ → ℕ → ℕ → ℕ → List ℕ → List ℕ → Left (Result (Unit {0}) Refusal)
make_of p k r b d s = make_checked d s (checked_of p k r b)

-- "Refill: after reading, set all parity from the data; other bytes stay."
unfoldable pub refill_read : List ℕ → Result Params Refusal → Left (Result (Unit {0}) Refusal)
refill_read s (Ok q) = record { answer = Ok tt; image = refilled s q }
refill_read s (Err e) = record { answer = Err e; image = s }

unfoldable pub refill_of : List ℕ → Left (Result (Unit {0}) Refusal)
refill_of s = refill_read s (read_of s)

-- parity j is as it should be
unfoldable pub parity_right : List ℕ → Params → ℕ → Bool
parity_right s q j =
    below (column_length q) (λ o. eqb (get_or s (parity_at q j + o) 0) (due q (data_byte s q) j (o / q.b) (o % q.b)))

-- "a word whose bit j is set exactly when parity j is wrong; other bits are 0"
unfoldable pub wrong_parities : List ℕ → Params → ℕ
wrong_parities s q = pack q.r (λ j. choose (parity_right s q j) 0 1)

-- "Check: after reading"
unfoldable pub check_read : List ℕ → Result Params Refusal → Result ℕ Refusal
check_read s (Ok q) = Ok (wrong_parities s q)
check_read s (Err e) = Err e

unfoldable pub check_of : List ℕ → Result ℕ Refusal
check_of s = check_read s (read_of s)
