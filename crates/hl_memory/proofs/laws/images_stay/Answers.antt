-- the law
use Rattle.hl_memory.proofs.WrittenLaws.{images_stay}
use Rattle.hl_memory.proofs.laws.images_stay.Goals as goal

pub returns : goal.returns
returns g c = images_stay _
