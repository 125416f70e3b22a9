use Rattle.hl_script.proofs.StreamLaws.{both_at_end}
use Rattle.hl_script.proofs.laws.failed_reads_and_writes_differ.Goals as goal

pub returns : goal.returns
returns c = both_at_end
