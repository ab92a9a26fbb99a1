-- `pattern::ask_within` meets its contract.
-- Assumes nothing.
use Rattle.pattern.proofs.Asking.{asks, ask_sound}
use Rattle.pattern.proofs.ask_within.Goals as goal

pub returns-then-not-is_within : goal.returns-then-not-is_within
returns-then-not-is_within c = search asks

pub returns-then-row-q : goal.returns-then-row-q
returns-then-row-q c = search asks

pub returns-then-not-is_few : goal.returns-then-not-is_few
returns-then-not-is_few c = search asks

pub returns-then-room-q : goal.returns-then-room-q
returns-then-room-q c = search asks

pub returns : goal.returns
returns c = search ask_sound
