-- `pattern::fits` meets its contract.
-- Assumes nothing.
use Rattle.pattern.proofs.Asking.{fits_tested}
use Rattle.pattern.proofs.fits.Goals as goal

pub returns : goal.returns
returns c = search fits_tested
