-- the law
use Rattle.hl_laws.proofs.FollowLaws.{actions_follow}
use Rattle.hl_laws.proofs.laws.actions_follow.Goals as goal

pub returns : goal.returns
returns c = actions_follow
