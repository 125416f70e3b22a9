use Rattle.std.proofs.Common.{sym, ◌∙◌}
use Rattle.hl_core.proofs.BaseStands.{told_taken}
use Rattle.hl_core.proofs.base.CoreQuantities.taken_row.Goals as goal

pub returns : goal.returns
returns g c = rw (sym c.self.view_is) (c.taken_row.ensures.list ∙ told_taken g.J.Tagged.tag _)
