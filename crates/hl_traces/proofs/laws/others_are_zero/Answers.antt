-- the law
use Rattle.hl_traces.proofs.RecordLaws.{others_are_zero}
use Rattle.hl_traces.proofs.laws.others_are_zero.Goals as goal

pub returns : goal.returns
returns c = others_are_zero
