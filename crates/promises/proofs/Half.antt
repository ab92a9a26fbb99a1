-- "Half the circle": a sound write is answered as RFC 1982 compares its base with the column's revision, and UNCLEAR exactly where the RFC says nothing.
-- Assumes nothing.
use Prim.Native.Nat.{ℕ}
use mathlib.Core.List.{List}
use mathlib.Core.Path.{◌≡◌, sym, ap, subst, ◌∙◌}
use Rattle.std.specs.Prelude.{Ok}
use Rattle.block.specs.Touches.{count}
use Rattle.revision.proofs.Serial.{serial_told}
use Rattle.revision.specs.Revision.{judged, age_number}
use Rattle.revision.specs.Serial.{SerialTold}
use Rattle.store.specs.Store.{Write}
use Rattle.stripe.specs.Layout.{revision_of}
use Rattle.stripe.specs.Reading.{read_of}
use Rattle.stripe.specs.declared.Params.{Params}
use Rattle.promises.proofs.Away.{agrees_refl, told_alike}
use Rattle.promises.proofs.Cover.{bytes_revision}
use Rattle.promises.proofs.Demand3.{aged_number, told_sound}
use Rattle.promises.proofs.Accepted.{reads_image}
use Rattle.promises.specs.Away.{told_away, recounted}
use Rattle.promises.specs.Demand2.{Pattern}
use Rattle.promises.specs.Demand3.{Answer, told, RevisionBytes, Sound}
use Rattle.promises.specs.Half.{SaysSerial}

pub serial_answered : (s : List ℕ) (q : Params) (w : Write) → read_of s ≡ Ok q → RevisionBytes s q → Sound q w → SaysSerial s w (told s w)
serial_answered s q w i b h =
    let n : ℕ = revision_of s w.column in
    let e : (told s w).refusal ≡ age_number (judged n w.base) = ap (λ (a : Answer). a.refusal) (told_sound q s w (reads_image s q i) h) ∙ aged_number (count q) w (judged n w.base) in
    subst (SerialTold n w.base) (sym e) (serial_told n w.base (bytes_revision s q b w.column h.column_in) h.base_in)

-- the same while columns are lost
pub serial_answered_away : (s : List ℕ) (q : Params) (m : ℕ) (w : Write) → Pattern q m → read_of s ≡ Ok q → RevisionBytes s q → Sound q w → SaysSerial s w (told_away m s w)
unfolding recounted
serial_answered_away s q m w P i b h =
    subst (SerialTold (revision_of s w.column) w.base) (sym (ap (λ (a : Answer). a.refusal) (told_alike q m w P s s (reads_image s q i) (agrees_refl s q m))))
    (serial_answered s q w i b h)
