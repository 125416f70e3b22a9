-- the law
use Rattle.hl_laws.proofs.OrderLaws.{offsets_are_in_order}
use Rattle.hl_laws.proofs.laws.offsets_are_in_order.Goals as goal

pub returns : goal.returns
returns c = offsets_are_in_order
