-- the law
use Rattle.hl_memory.proofs.OpenLaws.{histories_stand}
use Rattle.hl_memory.proofs.laws.histories_stand.Goals as goal

pub returns : goal.returns
returns g c = histories_stand _
