-- the law
use Rattle.hl_domain.proofs.ToldLaws.{later_calls_begin}
use Rattle.hl_domain.proofs.laws.later_calls_begin.Goals as goal

pub returns : goal.returns
returns g c = later_calls_begin _
