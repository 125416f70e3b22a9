-- the law
use Rattle.hl_memory.proofs.ImageLaws.{images_are_writes}
use Rattle.hl_memory.proofs.laws.images_are_writes.Goals as goal

pub returns : goal.returns
returns g c = images_are_writes _
