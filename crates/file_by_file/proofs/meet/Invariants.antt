-- `file_by_file::meet` meets its contract.
-- Assumes nothing.
use Prim.Native.Nat.{◌-◌, ◌≤◌}
use mathlib.Core.Path.{◌≡◌}
use lib.ListN.{length}
use Rattle.file_by_file.specs.Files.{met_from}
use Rattle.file_by_file.proofs.meet.Given as goal

abbrev pub invariant-loop-file : goal.invariant-loop-file
invariant-loop-file l = (l.at ≤ length l.files) × (met_from l.files l.at l.met ≡ met_from l.files 0 0)

abbrev pub decreases-loop-file : goal.decreases-loop-file
decreases-loop-file l = length l.files - l.at
