-- the law
use Rattle.hl_traces.proofs.TailLaws.{none_are_skipped}
use Rattle.hl_traces.proofs.laws.none_are_skipped.Goals as goal

pub returns : goal.returns
returns c = none_are_skipped
