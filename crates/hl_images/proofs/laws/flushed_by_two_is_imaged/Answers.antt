-- the law
use Rattle.hl_images.proofs.PairLaws.{flushed_by_two_is_imaged}
use Rattle.hl_images.proofs.laws.flushed_by_two_is_imaged.Goals as goal

pub returns : goal.returns
returns g c = flushed_by_two_is_imaged _
