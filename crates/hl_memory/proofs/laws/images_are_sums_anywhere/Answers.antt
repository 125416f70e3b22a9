-- the law
use Rattle.hl_memory.proofs.SumLaws.{images_are_sums_anywhere}
use Rattle.hl_memory.proofs.laws.images_are_sums_anywhere.Goals as goal

pub returns : goal.returns
returns g c = images_are_sums_anywhere _
