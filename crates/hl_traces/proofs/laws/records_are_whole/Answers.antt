-- the law
use Rattle.hl_traces.proofs.WholeLaws.{records_are_whole}
use Rattle.hl_traces.proofs.laws.records_are_whole.Goals as goal

pub returns : goal.returns
returns c = records_are_whole
