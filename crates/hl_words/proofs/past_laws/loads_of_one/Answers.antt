-- the law
use Rattle.hl_words.proofs.OneProofs.{loads_of_one}
use Rattle.hl_words.proofs.past_laws.loads_of_one.Goals as goal

pub returns : goal.returns
returns c = loads_of_one
