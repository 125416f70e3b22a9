-- the law
use Rattle.hl.proofs.UseLaws.{counters_end_as_sums}
use Rattle.hl.proofs.laws.counters_end_as_sums.Goals as goal

pub returns : goal.returns
returns g c = counters_end_as_sums _
