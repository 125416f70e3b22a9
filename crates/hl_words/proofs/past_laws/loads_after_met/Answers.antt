-- the law
use Rattle.hl_words.proofs.PastProofs.{loads_after_met}
use Rattle.hl_words.proofs.past_laws.loads_after_met.Goals as goal

pub returns : goal.returns
returns c = loads_after_met
