-- the law
use Rattle.hl_traces.proofs.RecordLaws.{records_are_found}
use Rattle.hl_traces.proofs.laws.records_are_found.Goals as goal

pub returns : goal.returns
returns c = records_are_found
