-- `away::write_sound` meets its contract.
-- Assumes nothing.
use Rattle.away.proofs.Laws.{away_left}
use Rattle.away.proofs.Ways.{current, handed_on}
use Rattle.away.proofs.write_sound.Goals as goal

pub returns-then-not-is_current : goal.returns-then-not-is_current
returns-then-not-is_current c = search handed_on

pub returns : goal.returns
returns c = search (current, away_left)
