-- the law
use Rattle.hl.proofs.WordsLeft.{words_are_records}
use Rattle.hl.proofs.laws.words_are_records.Goals as goal

pub returns : goal.returns
returns g c = words_are_records _
