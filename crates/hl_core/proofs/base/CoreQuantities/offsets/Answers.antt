use Rattle.std.proofs.Common.{sym, ap, ◌∙◌}
use Rattle.hl_offsets.specs.Log.{six_of}
use Rattle.hl_core.proofs.BaseStands.{told_six}
use Rattle.hl_core.proofs.base.CoreQuantities.offsets.Goals as goal

pub returns : goal.returns
returns g c = rw (sym c.self.view_is) (c.six.ensures.value ∙ ap (six_of c.self.inside.offsets) c.flushed_until.ensures.offset ∙ told_six g.J.Tagged.tag _)
