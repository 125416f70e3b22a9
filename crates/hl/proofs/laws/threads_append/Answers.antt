-- the law
use Rattle.hl.proofs.UseLaws.{threads_append}
use Rattle.hl.proofs.laws.threads_append.Goals as goal

pub returns : goal.returns
returns g c = threads_append _
