-- the law
use Rattle.hl_laws.proofs.LawProofs.{safe_is_greatest}
use Rattle.hl_laws.proofs.laws.safe_is_greatest.Goals as goal

pub returns : goal.returns
returns c = safe_is_greatest
