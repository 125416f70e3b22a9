use Rattle.std.proofs.Common.{sym, ◌∙◌}
use Rattle.hl_core.proofs.BaseStands.{told_epoch}
use Rattle.hl_core.proofs.base.CoreQuantities.epoch.Goals as goal

pub returns : goal.returns
returns g c = rw (sym c.self.view_is) (c.current.ensures.value ∙ told_epoch g.J.Tagged.tag _)
