-- the law
use Rattle.hl_laws.proofs.LawProofs.{tickets_rise}
use Rattle.hl_laws.proofs.laws.tickets_rise.Goals as goal

pub returns : goal.returns
returns c = tickets_rise
