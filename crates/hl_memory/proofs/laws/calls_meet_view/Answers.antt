-- the law
use Rattle.hl_memory.proofs.KeepLaws.{calls_meet_view}
use Rattle.hl_memory.proofs.laws.calls_meet_view.Goals as goal

pub returns : goal.returns
returns g c = calls_meet_view _
