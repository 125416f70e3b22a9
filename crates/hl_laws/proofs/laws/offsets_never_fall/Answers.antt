-- the law
use Rattle.hl_laws.proofs.OrderLaws.{offsets_never_fall}
use Rattle.hl_laws.proofs.laws.offsets_never_fall.Goals as goal

pub returns : goal.returns
returns c = offsets_never_fall
