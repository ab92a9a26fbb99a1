-- `files::blank` meets its contract.
-- Assumes nothing.
use lib.ListN.{length-replicate}
use Prim.Native.Nat.{ℕ}
use mathlib.Core.Path.{refl}
use Rattle.files.proofs.blank.Goals as goal

pub returns : goal.returns
returns c = (refl, length-replicate {A = ℕ} 1874177 0)
