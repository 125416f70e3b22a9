-- the law
use Rattle.hl_laws.proofs.LawProofs.{tables_follow}
use Rattle.hl_laws.proofs.laws.tables_follow.Goals as goal

pub returns : goal.returns
returns c = tables_follow
