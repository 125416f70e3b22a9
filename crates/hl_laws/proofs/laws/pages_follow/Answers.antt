-- the law
use Rattle.hl_laws.proofs.FollowLaws.{pages_follow}
use Rattle.hl_laws.proofs.laws.pages_follow.Goals as goal

pub returns : goal.returns
returns c = pages_follow
