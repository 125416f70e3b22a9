use Rattle.std.proofs.Common.{sym, ap, ◌∙◌, get_or}
use Rattle.std.specs.Prelude.{None}
use Rattle.hl_core.proofs.BaseStands.{frame_within, told_frames}
use Rattle.hl_core.proofs.base.CoreQuantities.held.Goals as goal

pub marks-requires : goal.marks-requires
marks-requires g c = frame_within g.J.Tagged.tag _ c.args.f c.self.invariant (rw (sym c.self.view_is) at c.requires)

pub returns : goal.returns
returns g c = rw (sym c.self.view_is) (c.marks.ensures.held ∙ ap (λ frames. get_or frames c.args.f None) (told_frames g.J.Tagged.tag _))
