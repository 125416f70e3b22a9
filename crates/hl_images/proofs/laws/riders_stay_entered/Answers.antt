-- the law
use Rattle.hl_images.proofs.KeptLaws.{riders_stay_entered}
use Rattle.hl_images.proofs.laws.riders_stay_entered.Goals as goal

pub returns : goal.returns
returns c sizes = riders_stay_entered sizes
