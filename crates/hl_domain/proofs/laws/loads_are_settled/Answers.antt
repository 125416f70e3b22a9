-- the law
use Rattle.hl_domain.proofs.ToldLaws.{loads_are_settled}
use Rattle.hl_domain.proofs.laws.loads_are_settled.Goals as goal

pub returns : goal.returns
returns g c = loads_are_settled _
