-- Request 3: "RFC 1982 leaves undefined which of two numbers is newer when they lie exactly 2^31 apart. Document 01 calls that STALE, and a restored tablet
-- was told it was behind when nobody could know."
-- Assumes nothing.
use Rattle.std.specs.Prelude.{ℕ, List}
use Rattle.revision.specs.Serial.{SerialTold}
use Rattle.stripe.specs.Layout.{revision_of}
use Rattle.store.specs.Store.{Write}
use Rattle.promises.specs.Demand3.{Answer}

-- the answer a to a write w on the image s is what the RFC says of its base and the column's revision
abbrev pub SaysSerial : List ℕ → Write → Answer → Type 0
SaysSerial s w a = SerialTold (revision_of s w.column) w.base a.refusal
