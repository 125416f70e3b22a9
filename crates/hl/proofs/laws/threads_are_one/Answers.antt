-- the law
use Rattle.hl.proofs.ThreadLaws.{threads_are_one}
use Rattle.hl.proofs.laws.threads_are_one.Goals as goal

pub returns : goal.returns
returns g c = threads_are_one _ _ _
