-- the law
use Rattle.hl_images.proofs.PairLaws.{flushed_by_two_stays}
use Rattle.hl_images.proofs.laws.flushed_by_two_stays.Goals as goal

pub returns : goal.returns
returns c = flushed_by_two_stays
