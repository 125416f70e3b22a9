-- the law
use Rattle.hl.proofs.EvictedLaws.{loaded_evicted_were_flushed}
use Rattle.hl.proofs.laws.loaded_evicted_were_flushed.Goals as goal

pub returns : goal.returns
returns g c = loaded_evicted_were_flushed _
