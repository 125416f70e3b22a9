-- the law
use Rattle.hl_words.proofs.PastProofs.{loads_between}
use Rattle.hl_words.proofs.past_laws.loads_between.Goals as goal

pub returns : goal.returns
returns c = loads_between
