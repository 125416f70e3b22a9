-- the law
use Rattle.hl_memory.proofs.KeepLaws.{acts_stand}
use Rattle.hl_memory.proofs.laws.acts_stand.Goals as goal

pub returns : goal.returns
returns c = acts_stand
