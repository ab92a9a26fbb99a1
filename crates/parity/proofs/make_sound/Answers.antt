-- `parity::make_sound` meets its contract.
-- Assumes nothing.
use native.Mathlib.Omega.{arith}
use borrow.Author.Rules.{rules}
use Rattle.parity.proofs.Calls.{width_fits, width_refused, room_refused, width_same, make_done}
use Rattle.parity.proofs.make_sound.Goals as goal

pub overflow_mul-width : goal.overflow_mul-width
overflow_mul-width c = record { fits = search width_fits }

pub returns-then-given-width : goal.returns-then-given-width
returns-then-given-width c = search width_refused

pub returns-then-image-image_length : goal.returns-then-image-image_length
returns-then-image-image_length c = search room_refused

pub fill-requires : goal.fill-requires
fill-requires c = record { admitted = search rules; width = search width_same; room = omega arith }

pub returns : goal.returns
returns c = search make_done
