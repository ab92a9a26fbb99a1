-- `filling::put_files` meets its contract.
-- Assumes nothing.
use Rattle.stripe.specs.Layout.{image_length}
use Prim.Native.Nat.{◌-◌}
use mathlib.Core.Path.{◌≡◌}
use lib.ListN.{length}
use Rattle.filling.specs.Filled.{filled_from}
use Rattle.file_by_file.specs.Inner.{Files}
use Rattle.filling.proofs.put_files.Given as goal

abbrev pub invariant-loop-at : goal.invariant-loop-at
invariant-loop-at l = (length l.image ≡ image_length l.q) × Files l.files l.q l.at × (filled_from l.files l.q l.at l.image ≡ filled_from l.files l.q 0 l.initial.image)

abbrev pub decreases-loop-at : goal.decreases-loop-at
decreases-loop-at l = length l.files - l.at
