-- the law
use Rattle.hl_traces.proofs.RecordLaws.{records_stay}
use Rattle.hl_traces.proofs.laws.records_stay.Goals as goal

pub returns : goal.returns
returns c = records_stay
