use Rattle.std.proofs.Common.{sym, ◌∙◌}
use Rattle.hl_core.proofs.BaseStands.{told_count}
use Rattle.hl_core.proofs.base.CoreQuantities.waiting_count.Goals as goal

pub returns : goal.returns
returns g c = rw (sym c.self.view_is) (c.pending_count.ensures.count ∙ told_count g.J.Tagged.tag _)
