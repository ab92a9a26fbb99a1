-- `ring::divide` meets its contract.
-- Assumes nothing.
use Rattle.ring.proofs.Elements.{admits_small, admits_divisible, divides}
use Rattle.ring.proofs.divide.Goals as goal

pub returns-then-not-admits : goal.returns-then-not-admits
returns-then-not-admits c = search divides

pub is_element-requires : goal.is_element-requires
is_element-requires c = search admits_small

pub returns-then-not-is_element : goal.returns-then-not-is_element
returns-then-not-is_element c = search divides

pub returns-then-a-p : goal.returns-then-a-p
returns-then-a-p c = search divides

pub returns-then-b-p : goal.returns-then-b-p
returns-then-b-p c = search divides

pub returns-then-a-b : goal.returns-then-a-b
returns-then-a-b c = search divides

pub quotient-requires : goal.quotient-requires
quotient-requires c = search admits_divisible

pub returns : goal.returns
returns c = search divides
