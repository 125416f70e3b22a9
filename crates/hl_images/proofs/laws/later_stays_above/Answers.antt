-- the law
use Rattle.hl_images.proofs.SealedLaws.{later_stays_above}
use Rattle.hl_images.proofs.laws.later_stays_above.Goals as goal

pub returns : goal.returns
returns c = later_stays_above
