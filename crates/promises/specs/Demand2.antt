-- Demand 2: "Parity is exactly the paper's, for every admitted p, k, r and strip length. From a right stripe any set of at most r lost columns is rebuilt to
-- the byte, without use of what the lost columns held. Larger sets are refused."
-- Assumes nothing.
use Rattle.std.specs.Prelude.{ℕ, ◌+◌, ◌*◌, ◌^◌, ◌<◌, ◌≤◌, true, false, List, ◌↔◌, ◌≡◌, T, length, get_or, take, Result, Ok}
use Rattle.laws.specs.Bit.{bit, weight}
use Rattle.laws.specs.Left.{Left}
use Rattle.laws.specs.Part.{part}
use Rattle.stripe.specs.declared.Params.{Params}
use Rattle.stripe.specs.Layout.{rows, column_length, image_length, parity_from, revision_of, data_byte, parity_byte}
use Rattle.stripe.specs.Params.{Admitted}
use Rattle.stripe.specs.Reading.{read_of}
use Rattle.block.specs.Parity.{due, Right}
use Rattle.parity.specs.Answer.{make_of, refill_of, check_of}
use Rattle.parity.specs.Make.{given}
use Rattle.pattern.specs.Pattern.{is_lost, pattern_fits, few_lost, lost_count, consulted}
use Rattle.rebuild.specs.Agrees.{AgreesOutside}
use Rattle.rebuild.specs.Answer.{rebuild_of, restore_of, column_strip_at, shown, show_number}
use Rattle.refusal.specs.declared.Refusal.{Refusal}
use Rattle.refusal.specs.Number.{answer_number, answer_value}

-- "any set of at most r lost columns", as a pattern: no bit at k+r or above, and at most r columns lost
pub record Pattern (q : Params) (m : ℕ) : Type 0 where
  pub fits : T (pattern_fits q m)
  pub few : T (few_lost q m)

-- a larger set: of columns that are there, more than r
pub record Larger (q : Params) (m : ℕ) : Type 0 where
  pub fits : m < 2 ^ (q.k + q.r)
  pub many : q.r < weight m (q.k + q.r)

-- a call answered with this number and left this slice
pub record ComesTo (l : Left (Result (Unit {0}) Refusal)) (number : ℕ) (slice : List ℕ) : Type 0 where
  pub answered : answer_number l.answer ≡ number
  pub left : l.image ≡ slice

-- what make leaves is the right image of the data d, revisions 0
pub record Made (l : Left (Result (Unit {0}) Refusal)) (q : Params) (d : List ℕ) : Type 0 where
  pub answered : answer_number l.answer ≡ 0
  pub reads : read_of l.image ≡ Ok q
  pub right : Right l.image q
  pub data_in : (i t x : ℕ) → i < q.k → t < rows q → x < q.b → data_byte l.image q i t x ≡ given d q i t x
  pub revisions : (i : ℕ) → i < q.k → revision_of l.image i ≡ 0

-- what refill leaves of s is right, and no byte before parity has changed
pub record Refilled (l : Left (Result (Unit {0}) Refusal)) (s : List ℕ) (q : Params) : Type 0 where
  pub answered : answer_number l.answer ≡ 0
  pub reads : read_of l.image ≡ Ok q
  pub right : Right l.image q
  pub rest : (o : ℕ) → o < parity_from q → get_or l.image o 0 ≡ get_or s o 0

-- check's word says which parity is the paper's
pub record Checked (s : List ℕ) (q : Params) : Type 0 where
  pub answered : answer_number (check_of s) ≡ 0
  pub right : (j : ℕ) → j < q.r
      → (bit (answer_value (check_of s)) j ≡ 0) ↔ ((t x : ℕ) → t < rows q → x < q.b → parity_byte s q j t x ≡ due q (data_byte s q) j t x)
  pub other : (j : ℕ) → q.r ≤ j → bit (answer_value (check_of s)) j ≡ 0

-- "demand 2 for rebuild", of a program that rebuilds: s is right, and u has anything in the lost columns
abbrev pub Rebuilds : (List ℕ → ℕ → Left (Result (Unit {0}) Refusal)) → Type 0
Rebuilds f = (s u : List ℕ) (q : Params) (m : ℕ) → read_of s ≡ Ok q → Right s q → Pattern q m → AgreesOutside s u q m → ComesTo (f u m) 0 s

-- two calls answered with the same number, and left the same slice where nothing was refused
pub record Alike (l r : Left (Result (Unit {0}) Refusal)) : Type 0 where
  pub answered : answer_number l.answer ≡ answer_number r.answer
  pub left : answer_number l.answer ≡ 0 → l.image ≡ r.image

-- two images alike in the present data and in the consulted parity
pub record SameConsulted (s u : List ℕ) (q : Params) (m : ℕ) : Type 0 where
  pub data_there : (i t x : ℕ) → i < q.k → t < rows q → x < q.b → is_lost m i ≡ false → data_byte u q i t x ≡ data_byte s q i t x
  pub parity_there : (v t x : ℕ) → v < lost_count q m → t < rows q → x < q.b
      → parity_byte u q (get_or (consulted q m) v 0) t x ≡ parity_byte s q (get_or (consulted q m) v 0) t x

pub record Demand2 : Type 0 where
  -- "Parity is exactly the paper's, for every admitted p, k, r and strip length": `due` in `Right`; where it is made, where it is set from the data, where it
  -- is judged
  pub made : (q : Params) (d s : List ℕ) → Admitted q → length d ≡ q.k * column_length q → length s ≡ image_length q → Made (make_of q.p q.k q.r q.b d s) q d
  pub refilled : (s : List ℕ) (q : Params) → read_of s ≡ Ok q → Refilled (refill_of s) s q
  pub checked : (s : List ℕ) (q : Params) → read_of s ≡ Ok q → Checked s q
  -- "each bit place of each byte is a code of its own": bit z of parity is the parity of bit z of the data
  pub bit_places : (q : Params) → Admitted q → (d : ℕ → ℕ → ℕ → ℕ) (j t x z : ℕ) → t < rows q → bit (due q d j t x) z ≡ due q (λ i u y. bit (d i u y) z) j t x
  -- "From a right stripe any set of at most r lost columns is rebuilt to the byte"
  pub rebuilt : Rebuilds rebuild_of
  -- and so is each of their strips alone, into the first B bytes of the scratch c
  pub restored : (s u : List ℕ) (q : Params) (m n t : ℕ) (c : List ℕ) → read_of s ≡ Ok q → Right s q → Pattern q m → AgreesOutside s u q m
      → n < q.k + q.r → t < rows q → q.b ≤ length c → is_lost m n ≡ true
      → (answer_number (restore_of u m n t c).answer ≡ 0) × (take q.b (restore_of u m n t c).image ≡ part s (column_strip_at q n t) q.b)
  -- "without use of what the lost columns held", "What lost columns held at entry affects nothing": of every accepted image, right or not, and every pattern
  pub rebuild_blind : (s u : List ℕ) (q : Params) (m : ℕ) → read_of s ≡ Ok q → AgreesOutside s u q m → Alike (rebuild_of s m) (rebuild_of u m)
  pub restore_blind : (s u : List ℕ) (q : Params) (m n t : ℕ) (c : List ℕ) → read_of s ≡ Ok q → AgreesOutside s u q m
      → Alike (restore_of s m n t c) (restore_of u m n t c)
  -- "Other parity isn't consulted": the lost data come from the present data and the consulted parity alone
  pub others_unconsulted : (s u : List ℕ) (q : Params) (m : ℕ) → read_of s ≡ Ok q → read_of u ≡ Ok q → Pattern q m → SameConsulted s u q m
      → (i t x : ℕ) → i < q.k → t < rows q → x < q.b → data_byte (rebuild_of s m).image q i t x ≡ data_byte (rebuild_of u m).image q i t x
  -- "restoring writes the strip that Rebuild would put there", of every accepted image: showing with the same scratch then returns it
  pub shown_restored : (s : List ℕ) (q : Params) (m n t : ℕ) (c : List ℕ) → read_of s ≡ Ok q → show_number s m n t (length c) ≡ 0
      → shown s m n t (restore_of s m n t c).image ≡ part (rebuild_of s m).image (column_strip_at q n t) q.b
  -- "Larger sets are refused": MANY is 12, and nothing changes
  pub larger_refused : (s : List ℕ) (q : Params) (m : ℕ) → read_of s ≡ Ok q → Larger q m → ComesTo (rebuild_of s m) 12 s
  pub larger_unrestored : (s : List ℕ) (q : Params) (m n t : ℕ) (c : List ℕ) → read_of s ≡ Ok q → Larger q m → n < q.k + q.r → t < rows q
      → ComesTo (restore_of s m n t c) 12 c
  -- "The empty pattern is accepted and changes nothing."
  pub empty : (s : List ℕ) (q : Params) → read_of s ≡ Ok q → ComesTo (rebuild_of s 0) 0 s
