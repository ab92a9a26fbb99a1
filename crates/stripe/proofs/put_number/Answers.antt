-- `stripe::put_number` meets its contract.
-- Assumes nothing.
use Rattle.std.proofs.Common.{◌∙◌}
use Rattle.stripe.proofs.Images.{number_put}
use Rattle.stripe.proofs.put_number.Goals as goal

pub returns : goal.returns
returns c = number_put _ _ _ _ c.requires.0 (c.copy_from_slice.ensures.after ∙ c.to_le_bytes.ensures)
