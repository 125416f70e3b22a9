use Rattle.std.proofs.Common.{sym, ◌∙◌}
use Rattle.hl_core.proofs.BaseStands.{waiting_at}
use Rattle.hl_core.proofs.base.CoreQuantities.waiting_at.Goals as goal

pub returns : goal.returns
returns g c = rw (sym c.self.view_is) (c.pending_at.ensures.value ∙ waiting_at g.J.Tagged.tag _ c.args.n)
