-- the law
use Rattle.hl_memory.proofs.ImageLaws.{images_are_words}
use Rattle.hl_memory.proofs.laws.images_are_words.Goals as goal

pub returns : goal.returns
returns g c = images_are_words _
