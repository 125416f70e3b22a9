-- the law
use Rattle.hl_laws.proofs.CutLaws.{cuts_anywhere}
use Rattle.hl_laws.proofs.laws.cuts_anywhere.Goals as goal

pub returns : goal.returns
returns c = cuts_anywhere
