-- the law
use Rattle.hl_laws.proofs.LawProofs.{epochs_are_in_order}
use Rattle.hl_laws.proofs.laws.epochs_are_in_order.Goals as goal

pub returns : goal.returns
returns c = epochs_are_in_order
