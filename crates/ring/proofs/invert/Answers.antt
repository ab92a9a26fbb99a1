-- `ring::invert` meets its contract.
-- Assumes nothing.
use Rattle.ring.proofs.Laws.{ones_in}
use Rattle.ring.proofs.invert.Goals as goal

pub overflow_sub-result-then-p-eq1 : goal.overflow_sub-result-then-p-eq1
overflow_sub-result-then-p-eq1 c = search ones_in
