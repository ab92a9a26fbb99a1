-- `images::make` meets its contract.
-- Assumes nothing.
use Rattle.stripe.proofs.Frame.{checked_admitted}
use Rattle.images.proofs.make.Goals as goal

pub image_length-n-requires : goal.image_length-n-requires
image_length-n-requires g c = checked_admitted _ _ _ _ _ _ c.checked.ensures c.in_ok-checked.was
