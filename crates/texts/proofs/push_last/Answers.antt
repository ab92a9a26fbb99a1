-- `texts::push_last` meets its contract.
-- Assumes nothing.
use Rattle.std.proofs.Common.{rules, arith}
use Rattle.texts.proofs.push_last.Goals as goal

pub push_str-requires : goal.push_str-requires
push_str-requires g c = (search rules, omega (arith, c.push_number.ensures.upper_bound))
