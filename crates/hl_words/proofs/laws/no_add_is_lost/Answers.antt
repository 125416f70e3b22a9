-- the law
use Rattle.hl_words.proofs.LawProofs.{no_add_is_lost}
use Rattle.hl_words.proofs.laws.no_add_is_lost.Goals as goal

pub returns : goal.returns
returns c = no_add_is_lost
