-- the law
use Rattle.hl_images.proofs.KeptLaws.{passes_stay_entered}
use Rattle.hl_images.proofs.laws.passes_stay_entered.Goals as goal

pub returns : goal.returns
returns c sizes = passes_stay_entered sizes
