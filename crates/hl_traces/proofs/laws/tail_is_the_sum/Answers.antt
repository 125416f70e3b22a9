-- the law
use Rattle.hl_traces.proofs.TailLaws.{tail_is_the_sum}
use Rattle.hl_traces.proofs.laws.tail_is_the_sum.Goals as goal

pub returns : goal.returns
returns c = tail_is_the_sum
