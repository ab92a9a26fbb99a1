-- Request 1: "A write now also takes a pattern of lost columns. Present columns must end as if the write had been made on the complete right image,
-- with this image's revisions, and the columns lost afterwards." "For this mode demand 3 supposes that some right image agrees with all present
-- columns, and holds with one sound pattern for the whole list, its last state read on the image that demand 2's rebuild then gives."
-- Assumes nothing.
use Rattle.std.specs.Prelude.{ℕ, ◌<◌, ◌≡◌, List, Result, Ok}
use Rattle.laws.specs.Choose.{choose}
use Rattle.laws.specs.Left.{Left}
use Rattle.stripe.specs.declared.Params.{Params}
use Rattle.stripe.specs.Layout.{rows, data_byte}
use Rattle.stripe.specs.Reading.{read_of}
use Rattle.store.specs.Lists.{Shuffled}
use Rattle.store.specs.Store.{Write, Entry, Logged, Once, under, last_accepted, byte_of}
use Rattle.store.specs.Image.{image_log, image_last}
use Rattle.block.specs.Parity.{Right}
use Rattle.rebuild.specs.Agrees.{AgreesOutside}
use Rattle.rebuild.specs.Lost.{rebuilt}
use Rattle.present.specs.Present.{present_count}
use Rattle.away.specs.Away.{away_of}
use Rattle.away.specs.Stays.{Stays}
use Rattle.promises.specs.Demand3.{Answer, answer_of, is_accepted, told, left, RevisionBytes, EachRefusedExactly}
use Rattle.write.specs.declared.Accepted.{Accepted}
use Rattle.write.specs.declared.Refused.{Refused}

-- one write with the pattern m on an image: what the contract of `away::write` says it leaves
abbrev pub write_away : ℕ → List ℕ → Write → Left (Result Accepted Refused)
write_away m s w = away_of s m w.column w.row w.base w.strip

abbrev pub told_away : ℕ → List ℕ → Write → Answer
told_away m s w = answer_of (write_away m s w).answer

abbrev pub left_away : ℕ → List ℕ → Write → List ℕ
left_away m s w = (write_away m s w).image

-- a list of writes with one pattern: each with its answer, and the last image
abbrev pub answers_away : ℕ → List ℕ → List Entry → List (Logged Answer)
answers_away m = image_log (told_away m) (left_away m)

abbrev pub last_away : ℕ → List ℕ → List Entry → List ℕ
last_away m = image_last (told_away m) (left_away m)

-- z is a right image that agrees with all present columns of s, and has its revisions
pub record Complete (z s : List ℕ) (q : Params) (m : ℕ) : Type 0 where
  pub accepted : read_of z ≡ Ok q
  pub right : Right z q
  pub agrees : AgreesOutside z s q m

-- "some right image agrees with all present columns"
pub record Completed (s : List ℕ) (q : Params) (m : ℕ) : Type 0 where
  pub whole : List ℕ
  pub is : Complete whole s q m

-- an answer of the write without lost columns, with the count "of present parity strips only"
unfoldable pub recounted : Params → ℕ → Write → Answer → Answer
recounted q m w a = record {
  refusal = a.refusal;
  revision = a.revision;
  count = choose (is_accepted a) (present_count q m w.column w.row) 0;
  distance = a.distance;
}

-- "Present columns must end as if the write had been made on the complete right image .. and the columns lost afterwards": one write w on s with the
-- pattern m, where z is the complete right image
pub record AsIf (z s : List ℕ) (q : Params) (m : ℕ) (w : Write) : Type 0 where
  -- the right image with the write made is the complete one again: right, and agreeing with all present columns and all revisions
  pub complete : Complete (left z w) (left_away m s w) q m
  -- so what demand 2's rebuild gives afterwards is the right image with the write made
  pub rebuilds : rebuilt (left_away m s w) q m ≡ left z w
  -- "Bytes of lost columns stay."
  pub stays : Stays s (left_away m s w) q m
  -- answered alike but for the count
  pub answered : told_away m s w ≡ recounted q m w (told z w)

-- s an accepted image with the parameters q, of which some right image has all present columns; m a sound pattern; es and fs two arrangements of one
-- list of writes, `Arrangement by_column q.k es fs`
pub record Demand3Away (s : List ℕ) (q : Params) (m : ℕ) (es fs : List Entry) : Type 0 where
  -- "each write gets the same answer in both", its distance too
  pub same_answers : Shuffled (answers_away m s es) (answers_away m s fs)
  pub by_number : Once es → (n : ℕ) → under n (answers_away m s es) ≡ under n (answers_away m s fs)
  -- "the final images are equal", in lost columns too: these stay
  pub same_image : last_away m s es ≡ last_away m s fs
  pub stays : Stays s (last_away m s es) q m
  pub still_accepted : read_of (last_away m s es) ≡ Ok q
  pub still_bytes : RevisionBytes (last_away m s es) q
  -- the premise holds again, so that a list may follow
  pub still_completed : Completed (last_away m s es) q m
  -- "each data strip holds its last accepted write or its old bytes", "read on the image that demand 2's rebuild then gives"
  pub last_strips : (i t x : ℕ) → i < q.k → t < rows q → x < q.b
      → data_byte (rebuilt (last_away m s es) q m) q i t x ≡ byte_of (last_accepted is_accepted i t (answers_away m s es)) (data_byte (rebuilt s q m) q i t x) x
  -- "right parity stays right"
  pub right_stays : Right (rebuilt (last_away m s es) q m) q
  -- "a sound write is refused exactly when its revision isn't current": each write of either list, at the image that it meets
  pub refused_exactly : EachRefusedExactly (told_away m) (left_away m) s q es
  pub refused_exactly_too : EachRefusedExactly (told_away m) (left_away m) s q fs
