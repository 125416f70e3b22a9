-- the law
use Rattle.hl_traces.proofs.CounterLaws.{counters_are_sums}
use Rattle.hl_traces.proofs.laws.counters_are_sums.Goals as goal

pub returns : goal.returns
returns c = counters_are_sums
