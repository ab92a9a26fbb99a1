-- Request 2: "A tablet shows only "stale". Technicians want "three notes behind". The revision comparison now answers with the distance as well: behind by
-- d, or ahead by 2^32 - d. Write and the degraded write hand it on".
-- Assumes nothing.
use Rattle.std.specs.Prelude.{ℕ, ◌<◌, ◌^◌, ◌&&◌, List, [], ◌∷◌, ◌≡◌, eqb, length}
use Rattle.refusal.specs.declared.Refusal.TheVariants.{Stale}
use Rattle.refusal.specs.Number.{number_of}
use Rattle.revision.specs.Revision.{judged, age_number, age_distance, DistanceTold}
use Rattle.stripe.specs.declared.Params.{Params}
use Rattle.stripe.specs.Layout.{revision_of}
use Rattle.store.specs.Lists.{keep}
use Rattle.store.specs.Store.{Write, Entry, Logged}
use Rattle.promises.specs.Demand3.{Answer, is_accepted, Sound}

-- what the answer a to a write w on the image s says of the column's revision and the base
abbrev pub SaysDistance : List ℕ → Write → Answer → Type 0
SaysDistance s w a = DistanceTold (revision_of s w.column) w.base a.refusal a.distance

-- how many writes to column i were accepted
abbrev pub accepted_to : ℕ → List (Logged Answer) → ℕ
accepted_to i l = length (keep (λ x. is_accepted x.answer && eqb x.entry.write.column i) l)

-- bases are revisions, of 32 bits
pub data Bases : List Entry → Type 0 where
  none : Bases []
  one_more : (e : Entry) {es : List Entry} → e.write.base < 2 ^ 32 → Bases es → Bases (e ∷ es)

-- the answer "three notes behind", where it is n notes
abbrev pub notes_behind : ℕ → Answer
notes_behind n = record { refusal = number_of Stale; revision = 0; count = 0; distance = n }

-- n writes to column i were accepted since the base b was current; s is the image by now, and `told` gives a call's answers
pub record ThreeNotesBehind (told : List ℕ → Write → Answer) (s : List ℕ) (q : Params) (i b n : ℕ) : Type 0 where
  -- the base is judged older, by n
  pub older : age_number (judged (revision_of s i) b) ≡ number_of Stale
  pub by : age_distance (judged (revision_of s i) b) ≡ n
  -- and a sound write against it gets this answer
  pub answered : (w : Write) → Sound q w → w.column ≡ i → w.base ≡ b → told s w ≡ notes_behind n
