use Rattle.bits_core.proofs.CarryLaws.{partial_product_zero, partial_product_suc, partial_product_is}
use Rattle.bits_core.proofs.laws.places.partial_products_are_products.Goals as goal

pub returns-clause-none : goal.returns-clause-none
returns-clause-none c = partial_product_zero

pub returns-clause-next : goal.returns-clause-next
returns-clause-next c = partial_product_suc

pub returns-clause-whole : goal.returns-clause-whole
returns-clause-whole c = partial_product_is
