-- the law
use Rattle.hl_words.proofs.PastProofs.{calls_after_met}
use Rattle.hl_words.proofs.past_laws.calls_after_met.Goals as goal

pub returns : goal.returns
returns c = calls_after_met
