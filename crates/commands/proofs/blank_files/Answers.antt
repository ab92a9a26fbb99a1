-- `commands::blank_files` meets its contract.
-- Assumes nothing.
use lib.ListN.{length-replicate}
use mathlib.Core.Path.{refl}
use Prim.Native.Nat.{ℕ}
use Rattle.commands.proofs.blank_files.Goals as goal

pub returns : goal.returns
returns c = (refl, length-replicate {A = ℕ} 1875272 0)
