-- `filling::put_files` meets its contract.
-- Assumes nothing.
use native.Mathlib.Omega.{arith}
use Rattle.filling.proofs.Turns.{files_after, filled_after, filled_end}
use Rattle.filling.proofs.put_files.Goals as goal

pub loop-at-preserved : goal.loop-at-preserved
loop-at-preserved c = (omega arith, search files_after, search filled_after)

pub returns : goal.returns
returns c = search filled_end
