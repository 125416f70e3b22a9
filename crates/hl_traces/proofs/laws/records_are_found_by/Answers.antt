-- the law
use Rattle.hl_traces.proofs.WholeLaws.{records_are_found_by}
use Rattle.hl_traces.proofs.laws.records_are_found_by.Goals as goal

pub returns : goal.returns
returns c = records_are_found_by
