-- the law
use Rattle.hl_images.proofs.ImageLaws.{flushed_is_imaged}
use Rattle.hl_images.proofs.laws.flushed_is_imaged.Goals as goal

pub returns : goal.returns
returns g c = flushed_is_imaged _
