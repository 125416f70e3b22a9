-- the law
use Rattle.hl_words.proofs.PastProofs.{calls_after_met}
use Rattle.hl_domain.proofs.ToldLaws.{told_calls_begin}
use Rattle.hl_domain.proofs.laws.told_calls_begin.Goals as goal

pub returns : goal.returns
returns g c = told_calls_begin calls_after_met _
