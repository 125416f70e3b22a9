-- the law
use Rattle.hl.proofs.AppendActs.{appends_more}
use Rattle.hl.proofs.laws.appends_more.Goals as goal

pub returns : goal.returns
returns c = appends_more
