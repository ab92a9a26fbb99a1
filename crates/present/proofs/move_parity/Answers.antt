-- `present::move_parity` meets its contract.
-- Assumes nothing.
use native.Mathlib.Omega.{arith}
use Prim.Native.Nat.{◌≤◌}
use Rattle.present.proofs.Laws.{shift_none, shift_rows, shift_more, scatter_few}
use Rattle.present.proofs.move_parity.Goals as goal

pub loop-j-init : goal.loop-j-init
loop-j-init c = (omega arith, search shift_none)

pub scatter-count-requires : goal.scatter-count-requires
scatter-count-requires c = search shift_rows

pub overflow_add-count : goal.overflow_add-count
overflow_add-count c = let h : c.scatter-count.result ≤ 60 = search scatter_few in omega arith

pub loop-j-preserved : goal.loop-j-preserved
loop-j-preserved c = (let h : c.scatter-count.result ≤ 60 = search scatter_few in omega arith, search shift_more)
