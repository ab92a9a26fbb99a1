-- `rebuild::rebuild` meets its contract.
-- Assumes nothing.
use Rattle.laws.proofs.Handed.{handed}
use Rattle.rebuild.proofs.Answering.{rebuild_unread, rebuild_image, rebuild_given}
use Rattle.rebuild.proofs.rebuild.Goals as goal

pub returns-in_err-q : goal.returns-in_err-q
returns-in_err-q c = search (rebuild_unread, c.in_err-q.was {u = tt}, handed _ _ c.from_residual.ensures.1)

pub rebuild_within-requires : goal.rebuild_within-requires
rebuild_within-requires c = search (rebuild_image, c.in_ok-q.was {u = tt})

pub returns : goal.returns
returns c = search (rebuild_given, c.in_ok-q.was {u = tt})
