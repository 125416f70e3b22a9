-- the law
use Rattle.hl_laws.proofs.CutLaws.{lists_may_be_cut}
use Rattle.hl_laws.proofs.laws.lists_may_be_cut.Goals as goal

pub returns : goal.returns
returns c = lists_may_be_cut
