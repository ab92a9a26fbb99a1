-- `stripe::put_u32` meets its contract.
-- Assumes nothing.
use Rattle.std.proofs.Common.{◌∙◌}
use Rattle.stripe.proofs.Images.{word_put}
use Rattle.stripe.proofs.put_u32.Goals as goal

pub returns : goal.returns
returns c = word_put _ _ _ _ (c.copy_from_slice.ensures.after ∙ c.to_le_bytes.ensures)
