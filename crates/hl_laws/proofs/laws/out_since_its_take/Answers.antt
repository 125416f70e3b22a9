-- the law
use Rattle.hl_laws.proofs.OutLaws.{out_since_its_take}
use Rattle.hl_laws.proofs.laws.out_since_its_take.Goals as goal

pub returns : goal.returns
returns c = out_since_its_take
