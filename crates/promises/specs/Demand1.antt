-- Demand 1: "Every call accepts every input. Bad images, numbers and lengths get the refusal that the documents name, in their order; a refusal changes no
-- lent byte." Document 01: "A refusal carries its number; every number beside it is 0; no lent byte changes." Request 2: "On STALE and AHEAD, document 01's
-- rule that numbers beside a refusal are 0 gives way to this distance."
-- Assumes nothing.
use Rattle.std.specs.Prelude.{ℕ, zero, suc, ◌+◌, ◌-◌, ◌*◌, ◌^◌, Bool, true, not, ◌&&◌, List, [], ◌∷◌, ◌≢◌, ◌⊎◌, ◌≡◌, eqb, ltb, leb, length, Result}
use Rattle.laws.specs.Bit.{bit}
use Rattle.laws.specs.Choose.{choose}
use Rattle.laws.specs.Left.{Left}
use Rattle.laws.specs.Number.{u16}
use Rattle.laws.specs.Xor.{◌⊕◌}
use Rattle.algebra.specs.Word.{element}
use Rattle.refusal.specs.declared.Refusal.{Refusal}
use Rattle.refusal.specs.declared.Refusal.TheVariants.{Cut, Tail, Count, Prime, Shape, Strip, Width, Column, Row, Stale, Ahead, Many, Room, Exponent, Unclear, Foreign, Twice, Element as NotElement}
use Rattle.refusal.specs.Number.{number_of, answer_number, answer_value}
use Rattle.stripe.specs.declared.Params.{Params}
use Rattle.stripe.specs.Layout.{rows, column_length, data_count_at, parity_count_at, image_length, revision_of}
use Rattle.stripe.specs.Params.{admitted_prime, admitted_shape, admitted_strip, checked_of, answer_values}
use Rattle.stripe.specs.Reading.{read_of}
use Rattle.stripe.specs.Sections.{numbers_at}
use Rattle.ring.specs.Answer.{different, product_answer, divide_answer}
use Rattle.parity.specs.Answer.{make_of, refill_of, check_of}
use Rattle.pattern.specs.Pattern.{pattern_fits, few_lost}
use Rattle.rebuild.specs.Answer.{rebuild_of, restore_of, shown, shown_at, show_number}
use Rattle.revision.specs.Revision.{distance}
use Rattle.write.specs.Written.{write_of, written_number, written_revision, written_count, written_distance}
use Rattle.away.specs.Away.{away_of}
use Rattle.column_file.specs.File.{flag, number_at, flag_at, file_length}
use Rattle.file_by_file.specs.Files.{first_params, alike, counted}
use Rattle.columns.specs.Export.{export_of, file_length_of}
use Rattle.columns.specs.Import.{import_of, files_length_of}
use Rattle.write.specs.declared.Accepted.{Accepted}
use Rattle.write.specs.declared.Refused.{Refused}

-- ---- a call's refusals in their order, each with the test by which it is due

pub record Test : Type 0 where
  pub refusal : Refusal
  pub is_due : Bool

infix 6 ◌when◌
abbrev pub ◌when◌ : Refusal → Bool → Test
e when b = record { refusal = e; is_due = b }

-- the number of the first that is due; 0 where none is
abbrev pub first_due : List Test → ℕ
first_due [] = 0
first_due (t ∷ more) = choose t.is_due (number_of t.refusal) (first_due more)

-- "PRIME, SHAPE, STRIP" of four numbers, then what follows where they are admitted
abbrev pub params_then : ℕ → ℕ → ℕ → ℕ → List Test → List Test
params_then p k r b more =
    (Prime when not (admitted_prime p)) ∷
    (Shape when not (admitted_shape p k r)) ∷
    (Strip when not (admitted_strip b)) ∷
    more

-- "p, k, r, B (16 bits each)" of section 1
abbrev pub section_numbers : List ℕ → Params
section_numbers s = numbers_at s 0

-- "Reading tests in this order", then what follows an accepted image
abbrev pub reading_then : List ℕ → List Test → List Test
reading_then s more =
    let q : Params = section_numbers s in
    -- "at least 2 bytes, else CUT; first count, else COUNT; at least 10 bytes, else CUT"
    (Cut when ltb (length s) 2) ∷
    (Count when not (eqb (u16 s 0) 4)) ∷
    (Cut when ltb (length s) 10) ∷
    -- "PRIME; SHAPE; STRIP"
    params_then q.p q.k q.r q.b
    -- "shorter than L is CUT; longer is TAIL"
    ((Cut when ltb (length s) (image_length q)) ∷
    (Tail when ltb (image_length q) (length s)) ∷
    -- "then the counts of sections 2, 3, 4, else COUNT"
    (Count when not (eqb (u16 s 10) q.k)) ∷
    (Count when not (eqb (u16 s (data_count_at q)) q.k)) ∷
    (Count when not (eqb (u16 s (parity_count_at q)) q.r)) ∷
    more)

-- "Ring .. Order: PRIME, ELEMENT, EXPONENT."
abbrev pub product_order : ℕ → ℕ → ℕ → List Test
product_order p u v =
    (Prime when not (admitted_prime p)) ∷
    (NotElement when not (element p u)) ∷
    (NotElement when not (element p v)) ∷
    []

abbrev pub divide_order : ℕ → ℕ → ℕ → ℕ → List Test
divide_order p s a b =
    (Prime when not (admitted_prime p)) ∷
    (NotElement when not (element p s)) ∷
    (Exponent when not (different p a b)) ∷
    []

-- "Make .. Order: PRIME, SHAPE, STRIP, WIDTH, ROOM."
abbrev pub make_order : ℕ → ℕ → ℕ → ℕ → List ℕ → List ℕ → List Test
make_order p k r b d s =
    let q : Params = record { p = p; k = k; r = r; b = b } in
    params_then p k r b
    ((Width when not (eqb (length d) (k * column_length q))) ∷
    (Room when not (eqb (length s) (image_length q))) ∷
    [])

-- "1 to 2^31 - 1 is STALE", "the exact half" UNCLEAR, "above is AHEAD": d = (n - b) mod 2^32
abbrev pub age_order : ℕ → List Test
age_order d =
    (Stale when (leb 1 d && ltb d (2 ^ 31))) ∷
    (Unclear when eqb d (2 ^ 31)) ∷
    (Ahead when ltb (2 ^ 31) d) ∷
    []

-- "Write .. Order: reading, COLUMN, ROW, WIDTH, then STALE or AHEAD."
abbrev pub write_order : List ℕ → ℕ → ℕ → ℕ → List ℕ → List Test
write_order s i t b v =
    let q : Params = section_numbers s in
    reading_then s
    ((Column when not (ltb i q.k)) ∷
    (Row when not (ltb t (rows q))) ∷
    (Width when not (eqb (length v) q.b)) ∷
    age_order (distance (revision_of s i) b))

-- request 1: "pattern bits join COLUMN; MANY stands after WIDTH and before STALE"
abbrev pub away_order : List ℕ → ℕ → ℕ → ℕ → ℕ → List ℕ → List Test
away_order s m i t b v =
    let q : Params = section_numbers s in
    reading_then s
    ((Column when not (pattern_fits q m && ltb i q.k)) ∷
    (Row when not (ltb t (rows q))) ∷
    (Width when not (eqb (length v) q.b)) ∷
    (Many when not (few_lost q m)) ∷
    age_order (distance (revision_of s i) b))

-- "Rebuild .. Order: reading, COLUMN, MANY."
abbrev pub rebuild_order : List ℕ → ℕ → List Test
rebuild_order s m =
    let q : Params = section_numbers s in
    reading_then s
    ((Column when not (pattern_fits q m)) ∷
    (Many when not (few_lost q m)) ∷
    [])

-- "Restore one strip and show .. Order for both: reading, COLUMN, ROW, MANY, ROOM."
abbrev pub strip_order : List ℕ → ℕ → ℕ → ℕ → ℕ → List Test
strip_order s m n t room =
    let q : Params = section_numbers s in
    reading_then s
    ((Column when not (pattern_fits q m && ltb n (q.k + q.r))) ∷
    (Row when not (ltb t (rows q))) ∷
    (Many when not (few_lost q m)) ∷
    (Room when not (leb q.b room)) ∷
    [])

-- request 4: "export gives reading's, COLUMN, then ROOM for a lent slice not of the file's length"
abbrev pub file_length_order : List ℕ → ℕ → List Test → List Test
file_length_order s n more =
    let q : Params = section_numbers s in
    reading_then s ((Column when not (ltb n (q.k + q.r))) ∷ more)

abbrev pub export_order : List ℕ → ℕ → ℕ → List Test
export_order s n room = file_length_order s n ((Room when not (eqb room (file_length (section_numbers s) n))) ∷ [])

-- request 4: "Import takes file by file", the file at a place, where met has the bits of the columns before it; then what follows an accepted file
abbrev pub file_then : List ℕ → ℕ → ℕ → List Test → List Test
file_then s at met more =
    let q : Params = numbers_at s at in
    let n : ℕ = u16 s (at + number_at) in
    -- "CUT below 2 bytes (also for no file at all), section one's COUNT, CUT below 14, PRIME, SHAPE, STRIP"
    (Cut when ltb (length s - at) 2) ∷
    (Count when not (eqb (u16 s at) 6)) ∷
    (Cut when ltb (length s - at) 14) ∷
    params_then q.p q.k q.r q.b
    -- "COLUMN for n not below k+r"
    ((Column when not (ltb n (q.k + q.r))) ∷
    -- "18 FOREIGN for parameters unlike the first file's or a flag wrong for n, 19 TWICE for a column met again"
    (Foreign when not (alike s at && eqb (u16 s (at + flag_at)) (flag q n))) ∷
    (Twice when not (eqb (bit met n) 0)) ∷
    -- "CUT, the other counts"
    (Cut when ltb (length s - at) (file_length q n)) ∷
    (Count when not (counted s at q n)) ∷
    more)

-- so many files at most, from a place on, then what follows all files; where no byte is left there is no file
unfoldable pub files_then : ℕ → List ℕ → ℕ → ℕ → List Test → List Test
files_then zero s at met more = (Cut when true) ∷ more
files_then (suc most) s at met more =
    let n : ℕ = u16 s (at + number_at) in
    let to : ℕ = at + file_length (numbers_at s at) n in
    file_then s at met (choose (ltb to (length s)) (files_then most s to (met ⊕ 2 ^ n) more) more)

-- each file has bytes, so that there are no more files than bytes
abbrev pub all_files_then : List ℕ → List Test → List Test
all_files_then s more = files_then (length s - 0) s 0 0 more

-- "after all files, ROOM for an image not of L bytes"
abbrev pub import_order : List ℕ → ℕ → List Test
import_order s room = all_files_then s ((Room when not (eqb room (image_length (first_params s)))) ∷ [])

-- ---- what a call comes to, by the documents' numbers

-- its refusal, 0 where there is none; the other numbers of its answer; the slice that it is lent to change, before and after
pub record Outcome : Type 0 where
  pub refusal : ℕ
  pub beside : List ℕ
  pub lent : List ℕ
  pub left : List ℕ

-- of a call that is lent nothing to change
abbrev pub only_answered : ℕ → List ℕ → Outcome
only_answered n beside = record { refusal = n; beside = beside; lent = []; left = [] }

abbrev pub of_word : Result ℕ Refusal → Outcome
of_word a = only_answered (answer_number a) (answer_value a ∷ [])

abbrev pub of_params : Result Params Refusal → Outcome
of_params a = only_answered (answer_number a) (answer_values a)

-- of a call that is lent s
abbrev pub of_outcome : List ℕ → Left (Result (Unit {0}) Refusal) → Outcome
of_outcome s l = record { refusal = answer_number l.answer; beside = []; lent = s; left = l.image }

abbrev pub of_written : List ℕ → Left (Result Accepted Refused) → Outcome
of_written s l =
    record {
      refusal = written_number l.answer;
      beside = written_revision l.answer ∷ written_count l.answer ∷ [];
      lent = s;
      left = l.image;
    }

abbrev pub of_imported : List ℕ → Left (Result ℕ Refusal) → Outcome
of_imported s l = record { refusal = answer_number l.answer; beside = answer_value l.answer ∷ []; lent = s; left = l.image }

-- ---- the demand

pub data Zeros : List ℕ → Type 0 where
  none : Zeros []
  one_more : {l : List ℕ} → Zeros l → Zeros (0 ∷ l)

-- of a call whose refusals stand in this order
pub record RefusesInOrder (order : List Test) (c : Outcome) : Type 0 where
  -- "get the refusal that the documents name, in their order": the first that is due, and none where none is due
  pub first : c.refusal ≡ first_due order
  -- "A refusal carries its number": one of the table, 0 where there is none
  pub in_table : (c.refusal ≡ 0) ⊎ ((e : Refusal) × (c.refusal ≡ number_of e))
  -- "every number beside it is 0"
  pub beside_zero : c.refusal ≢ 0 → Zeros c.beside
  -- "no lent byte changes"
  pub unchanged : c.refusal ≢ 0 → c.left ≡ c.lent

-- "gives way to this distance": what stands beside the number k of an answer, where n is the column's revision and b the base
abbrev pub distance_due : ℕ → ℕ → ℕ → ℕ
distance_due k n b = choose (eqb k (number_of Stale)) (distance n b) (choose (eqb k (number_of Ahead)) (2 ^ 32 - distance n b) 0)

-- "Every call accepts every input": each of the calls, with any numbers and any slices
pub record Demand1 : Type 0 where
  pub product : (p u v : ℕ) → RefusesInOrder (product_order p u v) (of_word (product_answer p u v))
  pub divide : (p s a b : ℕ) → RefusesInOrder (divide_order p s a b) (of_word (divide_answer p s a b))
  pub parameters : (p k r b : ℕ) → RefusesInOrder (params_then p k r b []) (of_params (checked_of p k r b))
  pub read : (s : List ℕ) → RefusesInOrder (reading_then s []) (of_params (read_of s))
  pub make : (p k r b : ℕ) (d s : List ℕ) → RefusesInOrder (make_order p k r b d s) (of_outcome s (make_of p k r b d s))
  pub refill : (s : List ℕ) → RefusesInOrder (reading_then s []) (of_outcome s (refill_of s))
  pub check : (s : List ℕ) → RefusesInOrder (reading_then s []) (of_word (check_of s))
  pub write : (s : List ℕ) (i t b : ℕ) (v : List ℕ) → RefusesInOrder (write_order s i t b v) (of_written s (write_of s i t b v))
  pub away : (s : List ℕ) (m i t b : ℕ) (v : List ℕ) → RefusesInOrder (away_order s m i t b v) (of_written s (away_of s m i t b v))
  pub rebuild : (s : List ℕ) (m : ℕ) → RefusesInOrder (rebuild_order s m) (of_outcome s (rebuild_of s m))
  pub restore : (s : List ℕ) (m n t : ℕ) (c : List ℕ) → RefusesInOrder (strip_order s m n t (length c)) (of_outcome c (restore_of s m n t c))
  pub show : (s : List ℕ) (m n t room : ℕ) → RefusesInOrder (strip_order s m n t room) (only_answered (show_number s m n t room) [])
  pub export : (s : List ℕ) (n : ℕ) (t : List ℕ) → RefusesInOrder (export_order s n (length t)) (of_outcome t (export_of s n t))
  pub import : (s t : List ℕ) → RefusesInOrder (import_order s (length t)) (of_imported t (import_of s t))
  pub file_length : (s : List ℕ) (n : ℕ) → RefusesInOrder (file_length_order s n []) (of_word (file_length_of s n))
  pub files_length : (s : List ℕ) → RefusesInOrder (all_files_then s []) (of_word (files_length_of s))
  -- the distance of both writes
  pub write_distance : (s : List ℕ) (i t b : ℕ) (v : List ℕ) → let a = (write_of s i t b v).answer in written_distance a ≡ distance_due (written_number a) (revision_of s i) b
  pub away_distance : (s : List ℕ) (m i t b : ℕ) (v : List ℕ) → let a = (away_of s m i t b v).answer in written_distance a ≡ distance_due (written_number a) (revision_of s i) b
  -- "A refused show returns an empty part of the scratch"; x and y are where the image and the scratch start
  pub show_empty : (s : List ℕ) (m n t : ℕ) (c : List ℕ) (x y : ℕ × ℕ) → show_number s m n t (length c) ≢ 0
      → (shown s m n t c ≡ []) × (shown_at s m n t (length c) x y ≡ y)
