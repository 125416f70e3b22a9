-- the law
use Rattle.hl.proofs.EvictedLaws.{evicted_were_flushed}
use Rattle.hl.proofs.laws.evicted_were_flushed.Goals as goal

pub returns : goal.returns
returns g = evicted_were_flushed
