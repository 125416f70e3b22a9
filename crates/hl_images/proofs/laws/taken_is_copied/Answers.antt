-- the law
use Rattle.hl_images.proofs.CopyLaws.{taken_is_copied}
use Rattle.hl_images.proofs.laws.taken_is_copied.Goals as goal

pub returns : goal.returns
returns g c = taken_is_copied _
