-- the law
use Rattle.hl_memory.proofs.EndLaws.{words_are_memory}
use Rattle.hl_memory.proofs.laws.words_are_memory.Goals as goal

pub returns : goal.returns
returns g c = words_are_memory _
