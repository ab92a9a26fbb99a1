-- `stripe::Params::checked` meets its contract. Assumes nothing.
use Rattle.stripe.proofs.Laws.{prime_refused, shape_refused, strip_refused, sound}
use Rattle.stripe.proofs.Params.checked.Goals as goal

pub returns-then-not-admits : goal.returns-then-not-admits
returns-then-not-admits c = search prime_refused

pub returns-then-not-admits_shape : goal.returns-then-not-admits_shape
returns-then-not-admits_shape c = search shape_refused

pub returns-then-not-admits_strip : goal.returns-then-not-admits_strip
returns-then-not-admits_strip c = search strip_refused

pub returns : goal.returns
returns c = search sound
