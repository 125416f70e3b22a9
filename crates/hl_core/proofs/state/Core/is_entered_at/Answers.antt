use Rattle.std.proofs.Common.{sym}
use Rattle.hl_core.proofs.PageFound.{entered_at_found}
use Rattle.hl_core.proofs.state.Core.is_entered_at.Goals as goal

pub returns : goal.returns
returns g c = rw (sym c.self.view_is) (entered_at_found g.J.Tagged.tag _ c.args.a c.is_entered_at.result c.is_entered_at.ensures)
