-- the law
use Rattle.hl_words.proofs.LawProofs.{lost_add_is_unlawful}
use Rattle.hl_words.proofs.laws.lost_add_is_unlawful.Goals as goal

pub returns : goal.returns
returns c = lost_add_is_unlawful
