-- `pattern::ask` meets its contract.
-- Assumes nothing.
use Rattle.laws.proofs.Handed.{handed}
use Rattle.pattern.proofs.Asking.{ask_unread, ask_read, read_admitted}
use Rattle.pattern.proofs.ask.Goals as goal

pub returns-in_err-read : goal.returns-in_err-read
returns-in_err-read c = ask_unread _ _ _ _ _ _ c.read.ensures _ _ (c.in_err-read.was {u = tt}) (handed _ _ c.from_residual.ensures.1)

pub ask_within-requires : goal.ask_within-requires
ask_within-requires c = read_admitted _ _ c.read.ensures _ (c.in_ok-read.was {u = tt})

pub returns : goal.returns
returns c = search (ask_read, c.in_ok-read.was {u = tt})
