use Rattle.std.proofs.Common.{sym, ◌∙◌}
use Rattle.hl_core.proofs.BaseStands.{told_frames}
use Rattle.hl_core.proofs.base.CoreQuantities.held_row.Goals as goal

pub returns : goal.returns
returns g c = rw (sym c.self.view_is) (c.row.ensures.held ∙ told_frames g.J.Tagged.tag _)
