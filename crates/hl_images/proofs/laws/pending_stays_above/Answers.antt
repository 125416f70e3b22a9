-- the law
use Rattle.hl_images.proofs.SealedLaws.{pending_stays_above}
use Rattle.hl_images.proofs.laws.pending_stays_above.Goals as goal

pub returns : goal.returns
returns c = pending_stays_above
