-- the law
use Rattle.hl_memory.proofs.ImageLaws.{images_are_zero}
use Rattle.hl_memory.proofs.laws.images_are_zero.Goals as goal

pub returns : goal.returns
returns g c = images_are_zero _
