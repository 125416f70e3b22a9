-- the law
use Rattle.hl_words.proofs.OneProofs.{loads_of_told}
use Rattle.hl_words.proofs.past_laws.loads_of_told.Goals as goal

pub returns : goal.returns
returns c = loads_of_told
