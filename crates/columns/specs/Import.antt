-- Request 4: "Import takes any set of such files, one after another in a lent slice, and fills an image and the pattern of absent columns. Absent columns
-- and their revisions are filled with zeros." "after all files, ROOM for an image not of L bytes".
-- Assumes nothing.
use Rattle.std.specs.Prelude.{ℕ, ◌+◌, List, eqb, length, Result, Ok, Err}
use Rattle.laws.specs.Bit.{bit, pack}
use Rattle.laws.specs.Choose.{choose}
use Rattle.laws.specs.Left.{Left}
use Rattle.refusal.specs.declared.Refusal.TheVariants.{Room}
use Rattle.stripe.specs.Layout.{image_length}
use Rattle.stripe.specs.declared.Params.{Params}
use Rattle.file_by_file.specs.Files.{first_params, met_from}
use Rattle.filling.specs.Filled.{blank, filled_from}
use Rattle.refusal.specs.declared.Refusal.{Refusal}

-- "the pattern of absent columns": bit n is set where column n was not met
unfoldable pub absent : Params → ℕ → ℕ
absent q met = pack (q.k + q.r) (λ n. choose (eqb (bit met n) 0) 1 0)

-- ---- the call; t is the lent image

-- "after all files, ROOM for an image not of L bytes"
unfoldable pub import_sound : List ℕ → List ℕ → Params → ℕ → Left (Result ℕ Refusal)
import_sound s t q met =
    choose (eqb (length t) (image_length q))
    (record { answer = Ok (absent q met); image = filled_from s q 0 (blank q) })
    (record { answer = Err Room; image = t })

unfoldable pub import_met : List ℕ → List ℕ → Result ℕ Refusal → Left (Result ℕ Refusal)
import_met s t (Ok met) = import_sound s t (first_params s) met
import_met s t (Err e) = record { answer = Err e; image = t }

unfoldable pub import_of : List ℕ → List ℕ → Left (Result ℕ Refusal)
import_of s t = import_met s t (met_from s 0 0)

-- "L bytes" of the image that files make, for a caller that lends it: refused as import is, but for ROOM
unfoldable pub files_length_met : List ℕ → Result ℕ Refusal → Result ℕ Refusal
files_length_met s (Ok met) = Ok (image_length (first_params s))
files_length_met s (Err e) = Err e

unfoldable pub files_length_of : List ℕ → Result ℕ Refusal
files_length_of s = files_length_met s (met_from s 0 0)
