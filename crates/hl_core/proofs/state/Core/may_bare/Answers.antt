use Rattle.std.proofs.Common.{sym}
use Rattle.hl_core.proofs.AskStands.{bare_told}
use Rattle.hl_core.proofs.state.Core.may_bare.Goals as goal

pub returns : goal.returns
returns g c = rw (sym c.self.view_is) (bare_told g.J.Tagged.tag _ c.may_end_epoch.result c.may_end_epoch.ensures.answer)
