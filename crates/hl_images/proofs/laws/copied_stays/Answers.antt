-- the law
use Rattle.hl_images.proofs.ImageLaws.{copied_stays}
use Rattle.hl_images.proofs.laws.copied_stays.Goals as goal

pub returns : goal.returns
returns c = copied_stays
