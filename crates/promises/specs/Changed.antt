-- "The answer gives the new revision and the number of such (j, q). It lies from r to r(p-1). If the difference isn't all zero, it is also the number of
-- parity strips that changed. A write of the same bytes is accepted and counted alike."
-- Assumes nothing.
use Rattle.std.specs.Prelude.{ℕ, ◌*◌, ◌<◌, ◌≤◌, List, ◌≢◌, ◌≡◌, eqb, get_or}
use Rattle.laws.specs.Choose.{choose, below}
use Rattle.laws.specs.Sum.{total}
use Rattle.stripe.specs.declared.Params.{Params}
use Rattle.stripe.specs.Layout.{rows, data_byte, parity_byte}
use Rattle.block.specs.Touches.{count}
use Rattle.write.specs.Written.{difference}
use Rattle.present.specs.Present.{present_count, present_parities}
use Rattle.away.specs.Away.{away_difference}
use Rattle.revision.specs.Revision.{renewed}
use Rattle.store.specs.Store.{Write}
use Rattle.promises.specs.Away.{told_away, left_away}
use Rattle.promises.specs.Demand3.{Answer, told, left}

-- 1 where a byte of parity strip (j, t) differs in two images, else 0
unfoldable pub strip_changed : List ℕ → List ℕ → Params → ℕ → ℕ → ℕ
strip_changed s u q j t = choose (below q.b (λ x. eqb (parity_byte s q j t x) (parity_byte u q j t x))) 0 1

-- how many parity strips differ
unfoldable pub strips_changed : List ℕ → List ℕ → Params → ℕ
strips_changed s u q = total q.r (λ j. total (rows q) (λ t. strip_changed s u q j t))

-- what is answered to a sound write w on s whose base is current, and the image u that is left, where d is the difference: `number` pairs (j, q) are touched, in
-- `parities` columns
pub record Counted (a : Answer) (s u : List ℕ) (q : Params) (w : Write) (number parities : ℕ) (d : ℕ → ℕ) : Type 0 where
  pub accepted : a.refusal ≡ 0
  -- "The answer gives the new revision and the number of such (j, q)."
  pub revised : a.revision ≡ renewed w.base
  pub counted : a.count ≡ number
  -- "It lies from r to r(p-1)."
  pub least : parities ≤ a.count
  pub most : a.count ≤ parities * rows q
  -- "If the difference isn't all zero, it is also the number of parity strips that changed."
  pub changed : (x : ℕ) → x < q.b → d x ≢ 0 → strips_changed s u q ≡ a.count

abbrev pub WriteCounted : List ℕ → Params → Write → Type 0
WriteCounted s q w = Counted (told s w) s (left s w) q w (count q w.column w.row) q.r (difference s q w.column w.row w.strip)

-- request 1: "The count covers present parity strips only, and its lower bound r becomes the number of present parity columns."
abbrev pub AwayCounted : List ℕ → Params → ℕ → Write → Type 0
AwayCounted s q m w =
    Counted (told_away m s w) s (left_away m s w) q w (present_count q m w.column w.row) (present_parities q m) (away_difference s q m w.column w.row w.strip)

-- w writes the bytes that stand there
abbrev pub WritesSame : List ℕ → Params → Write → Type 0
WritesSame s q w = (x : ℕ) → x < q.b → get_or w.strip x 0 ≡ data_byte s q w.column w.row x

-- "A write of the same bytes is accepted and counted alike": as any other strip there is, and no byte of data or parity changes
pub record CountedAlike (s : List ℕ) (q : Params) (w : Write) : Type 0 where
  pub alike : WriteCounted s q w
  pub data_stays : (i t x : ℕ) → i < q.k → t < rows q → x < q.b → data_byte (left s w) q i t x ≡ data_byte s q i t x
  pub parity_stays : (j t x : ℕ) → j < q.r → t < rows q → x < q.b → parity_byte (left s w) q j t x ≡ parity_byte s q j t x
