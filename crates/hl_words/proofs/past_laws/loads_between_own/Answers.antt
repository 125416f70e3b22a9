-- the law
use Rattle.hl_words.proofs.PastProofs.{loads_between_own}
use Rattle.hl_words.proofs.past_laws.loads_between_own.Goals as goal

pub returns : goal.returns
returns c = loads_between_own
