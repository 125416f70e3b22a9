-- the law
use Rattle.hl_laws.proofs.CutHeadline.{taken_after_all_moved_since}
use Rattle.hl_laws.proofs.laws.taken_after_all_moved_since.Goals as goal

pub returns : goal.returns
returns c = taken_after_all_moved_since
