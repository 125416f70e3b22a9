-- the law
use Rattle.hl_words.proofs.LawProofs.{no_rider_goes_back}
use Rattle.hl_words.proofs.laws.no_rider_goes_back.Goals as goal

pub returns : goal.returns
returns c = no_rider_goes_back
