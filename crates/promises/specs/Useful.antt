-- "Five useless programs must not meet it. One that refuses all writes, and one that always answers alike, break demand 3's exact refusal rule. One that does
-- nothing breaks the new bytes and revision above, and demand 2 for rebuild. One that obeys only its first write breaks demand 3's last state: the bytes of
-- the last accepted write in each data strip, and parity by demand 2's definition. One that invents the count breaks the pairs (j, q).": the rules that
-- these break, over any program; demand 2's for rebuild is `Rebuilds`.
-- Assumes nothing.
use Rattle.std.specs.Prelude.{ℕ, ◌<◌, ◌^◌, List, ◌≡◌, get_or, Ok}
use Rattle.stripe.specs.declared.Params.{Params}
use Rattle.stripe.specs.Layout.{rows, revision_of, data_byte, parity_byte}
use Rattle.stripe.specs.Reading.{read_of}
use Rattle.block.specs.Parity.{due, Right}
use Rattle.block.specs.Touches.{count}
use Rattle.revision.specs.Revision.{renewed}
use Rattle.store.specs.Image.{image_log, image_last}
use Rattle.store.specs.Store.{Write, Entry, last_accepted, byte_of}
use Rattle.promises.specs.Behind.{SaysDistance}
use Rattle.promises.specs.Demand3.{Answer, is_accepted, RevisionBytes, ExactlyRefused, Current}

-- a program that writes: what it answers, and the image that it leaves
module _ (told : List ℕ → Write → Answer) (left : List ℕ → Write → List ℕ) where
  -- "demand 3's exact refusal rule"
  abbrev pub RefusesExactly : Type 0
  RefusesExactly = (s : List ℕ) (q : Params) (w : Write) → read_of s ≡ Ok q → RevisionBytes s q → ExactlyRefused told q s w

  -- "the new bytes and revision above": "puts the new strip in place", "sets the revision to (b + 1) mod 2^32"
  abbrev pub PutsNewBytes : Type 0
  PutsNewBytes = (s : List ℕ) (q : Params) (w : Write) → Current s q w → (x : ℕ) → x < q.b → data_byte (left s w) q w.column w.row x ≡ get_or w.strip x 0

  abbrev pub SetsRevision : Type 0
  SetsRevision = (s : List ℕ) (q : Params) (w : Write) → Current s q w → revision_of (left s w) w.column ≡ renewed w.base

  -- "demand 3's last state: the bytes of the last accepted write in each data strip"
  abbrev pub last_byte : List ℕ → Params → List Entry → ℕ → ℕ → ℕ → ℕ
  last_byte s q es i t x = byte_of (last_accepted is_accepted i t (image_log told left s es)) (data_byte s q i t x) x

  abbrev pub HoldsLastWrites : Type 0
  HoldsLastWrites = (s : List ℕ) (q : Params) (es : List Entry) → read_of s ≡ Ok q → RevisionBytes s q
      → (i t x : ℕ) → i < q.k → t < rows q → x < q.b → data_byte (image_last told left s es) q i t x ≡ last_byte s q es i t x

  -- "and parity by demand 2's definition": where it was right before
  abbrev pub HoldsLastParity : Type 0
  HoldsLastParity = (s : List ℕ) (q : Params) (es : List Entry) → read_of s ≡ Ok q → RevisionBytes s q → Right s q
      → (j t x : ℕ) → j < q.r → t < rows q → x < q.b → parity_byte (image_last told left s es) q j t x ≡ due q (last_byte s q es) j t x

  -- "the pairs (j, q)": the count is the number of those that the strip touches
  abbrev pub CountsPairs : Type 0
  CountsPairs = (s : List ℕ) (q : Params) (w : Write) → Current s q w → (told s w).count ≡ count q w.column w.row

  -- request 2: the distance is how far the base is behind or ahead
  abbrev pub TellsDistance : Type 0
  TellsDistance = (s : List ℕ) (q : Params) (w : Write) → read_of s ≡ Ok q → RevisionBytes s q → w.base < 2 ^ 32 → SaysDistance s w (told s w)

  -- all of them
  pub record Useful : Type 0 where
    pub refuses_exactly : RefusesExactly
    pub puts_new_bytes : PutsNewBytes
    pub sets_revision : SetsRevision
    pub holds_last_writes : HoldsLastWrites
    pub holds_last_parity : HoldsLastParity
    pub counts_pairs : CountsPairs
    pub tells_distance : TellsDistance
