-- the law
use Rattle.hl.proofs.DoneLaws.{over_were_done}
use Rattle.hl.proofs.laws.over_were_done.Goals as goal

pub returns : goal.returns
returns c = over_were_done
