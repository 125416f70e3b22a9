-- the law
use Rattle.hl_images.proofs.LaterLaws.{later_states}
use Rattle.hl_images.proofs.laws.later_states.Goals as goal

pub returns : goal.returns
returns c = later_states
