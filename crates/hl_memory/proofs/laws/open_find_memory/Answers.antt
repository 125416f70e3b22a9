-- the law
use Rattle.hl_memory.proofs.OpenLaws.{open_find_memory}
use Rattle.hl_memory.proofs.laws.open_find_memory.Goals as goal

pub returns : goal.returns
returns g c = open_find_memory _
