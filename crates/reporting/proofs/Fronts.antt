-- The report of what was read, at the front of a buffer.
-- Assumes nothing.
use Rattle.std.proofs.Common.{◌≡◌, ℕ, List, length, take, ap, ◌∙◌, subst}
use Rattle.std.specs.Io.KnownBytes.{Appends}
use Rattle.std.specs.Prelude.{Option, None, Some, Result, Ok, Err, IfSome, OnOk}
use Rattle.reporting.specs.Report.{report_of}
use Rattle.reporting.proofs.Laws.{report_of_front}

-- the report of what was read in 65,537 bytes is that of all that the reader had, and it is what was written
pub report_told : {T E : Type 0} (r : Result T E) (known a b : Option (List ℕ)) (front out : List ℕ) (n : ℕ) → length front ≡ 65537
    → IfSome known (λ s. take n front ≡ take (length front) s) → out ≡ report_of (take n front) → OnOk r (Appends a b out)
    → OnOk r (IfSome known (λ s. Appends a b (report_of s)))
report_told (Ok v) None a b front out n l e h p = tt
report_told (Ok v) (Some s) a b front out n l e h p = subst (Appends a b) (h ∙ ap report_of (e ∙ ap (λ i. take i s) l) ∙ report_of_front s) p
report_told (Err x) known a b front out n l e h p = tt
