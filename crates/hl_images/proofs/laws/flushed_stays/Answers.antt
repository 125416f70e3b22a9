-- the law
use Rattle.hl_images.proofs.ImageLaws.{flushed_stays}
use Rattle.hl_images.proofs.laws.flushed_stays.Goals as goal

pub returns : goal.returns
returns c = flushed_stays
