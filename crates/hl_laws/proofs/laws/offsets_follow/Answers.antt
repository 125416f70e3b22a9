-- the law
use Rattle.hl_laws.proofs.FollowLaws.{offsets_follow}
use Rattle.hl_laws.proofs.laws.offsets_follow.Goals as goal

pub returns : goal.returns
returns c = offsets_follow
