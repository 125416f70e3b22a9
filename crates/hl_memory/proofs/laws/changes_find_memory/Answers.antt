-- the law
use Rattle.hl_memory.proofs.OpenLaws.{changes_find_memory}
use Rattle.hl_memory.proofs.laws.changes_find_memory.Goals as goal

pub returns : goal.returns
returns g c = changes_find_memory _
