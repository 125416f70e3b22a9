-- the law
use Rattle.hl_memory.proofs.KeepLaws.{acts_are_kept}
use Rattle.hl_memory.proofs.laws.acts_are_kept.Goals as goal

pub returns : goal.returns
returns c = acts_are_kept
