-- the law
use Rattle.hl_traces.proofs.OneLaws.{traces_are_one}
use Rattle.hl_traces.proofs.laws.traces_are_one.Goals as goal

pub returns : goal.returns
returns g c = traces_are_one _
