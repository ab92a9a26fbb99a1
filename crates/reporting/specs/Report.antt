-- "Report program": the bytes that it prints for its input, whole.
-- Assumes nothing.
use Rattle.std.specs.Prelude.{ℕ, zero, suc, Bool, true, false, List, [], ◌++◌, ltb, length, Result, Ok, Err}
use Rattle.laws.specs.Choose.{choose}
use Rattle.refusal.specs.Number.{number_of}
use Rattle.refusal.specs.declared.Refusal.{Refusal}
use Rattle.refusal.specs.declared.Refusal.TheVariants.{Long}
use Rattle.stripe.specs.Layout.{revision_of}
use Rattle.stripe.specs.Reading.{read_of}
use Rattle.stripe.specs.declared.Params.{Params}
use Rattle.parity.specs.Answer.{parity_right}
use Rattle.texts.specs.Text.{text, spaced, bytes, line_end}

-- "it prints `refused N`"
abbrev pub refused_line : Refusal → List ℕ
refused_line e = bytes "refused" ++ (spaced (text (number_of e)) ++ line_end)

-- "in decimal and opening with the words shown below: p, k, r, B", as `stripe 5 2 2 1`
abbrev pub stripe_line : Params → List ℕ
stripe_line q =
    bytes "stripe" ++ (spaced (text q.p) ++ (spaced (text q.k) ++ (spaced (text q.r) ++ (spaced (text q.b) ++ line_end))))

-- "a line each": the lines of 0, 1, .. n - 1, one behind the other
unfoldable pub lines : ℕ → (ℕ → List ℕ) → List ℕ
lines zero line = []
lines (suc n) line = lines n line ++ line n

-- "each data column with its revision", as `data 1 7`
unfoldable pub data_line : List ℕ → ℕ → List ℕ
data_line s i = bytes "data" ++ (spaced (text i) ++ (spaced (text (revision_of s i)) ++ line_end))

-- "`right` or `wrong`"
abbrev pub verdict : Bool → List ℕ
verdict true = bytes "right"
verdict false = bytes "wrong"

-- "each parity number with `right` or `wrong`", as `parity 0 right`
unfoldable pub parity_line : (ℕ → Bool) → ℕ → List ℕ
parity_line right j = bytes "parity" ++ (spaced (text j) ++ (spaced (verdict (right j)) ++ line_end))

-- "p, k, r, B; each data column with its revision; each parity number with `right` or `wrong`"
abbrev pub image_lines : List ℕ → Params → List ℕ
image_lines s q = stripe_line q ++ (lines q.k (data_line s) ++ lines q.r (parity_line (parity_right s q)))

-- "If refused, it prints `refused N`"; "Otherwise it prints .."
unfoldable pub read_lines : List ℕ → Result Params Refusal → List ℕ
read_lines s (Err e) = refused_line e
read_lines s (Ok q) = image_lines s q

-- the report of an image of any length: the depot's command `report` has no limit
unfoldable pub lines_of : List ℕ → List ℕ
lines_of s = read_lines s (read_of s)

-- "LONG comes first": "input above 65,536 bytes"
unfoldable pub report_of : List ℕ → List ℕ
report_of s = choose (ltb 65536 (length s)) (refused_line Long) (lines_of s)
