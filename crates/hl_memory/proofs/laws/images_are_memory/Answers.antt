-- the law
use Rattle.hl_memory.proofs.EndLaws.{images_are_memory}
use Rattle.hl_memory.proofs.laws.images_are_memory.Goals as goal

pub returns : goal.returns
returns g c = images_are_memory _
