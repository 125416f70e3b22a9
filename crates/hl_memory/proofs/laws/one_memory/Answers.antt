-- the law
use Rattle.hl_memory.proofs.OpenLaws.{one_memory}
use Rattle.hl_memory.proofs.laws.one_memory.Goals as goal

pub returns : goal.returns
returns g c = one_memory _
