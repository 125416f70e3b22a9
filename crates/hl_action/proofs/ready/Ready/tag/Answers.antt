use Rattle.std.proofs.Common.{rules}
use Rattle.hl_action.proofs.ready.Ready.tag.Goals as goal

pub returns : goal.returns
returns g c = search rules
