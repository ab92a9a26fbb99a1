-- `ring::product` meets its contract.
-- Assumes nothing.
use Rattle.ring.proofs.Elements.{admits_small, admits_factor, products}
use Rattle.ring.proofs.product.Goals as goal

pub returns-then-not-admits : goal.returns-then-not-admits
returns-then-not-admits c = search products

pub is_element-requires : goal.is_element-requires
is_element-requires c = search admits_small

pub returns-then-not-is_element : goal.returns-then-not-is_element
returns-then-not-is_element c = search products

pub is_element-requires-2 : goal.is_element-requires-2
is_element-requires-2 c = search admits_small

pub returns-then-not-is_element-2 : goal.returns-then-not-is_element-2
returns-then-not-is_element-2 c = search products

pub multiply-requires : goal.multiply-requires
multiply-requires c = admits_factor _ _ c.admits.ensures c.if-not-admits.false _ _ c.is_element-2.ensures c.if-not-is_element-2.false

pub returns : goal.returns
returns c = search products
