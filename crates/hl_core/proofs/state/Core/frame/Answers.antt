use Rattle.std.proofs.Common.{sym}
use Rattle.hl_core.proofs.PageFound.{frame_fits, closed_fits, state_told}
use Rattle.hl_core.proofs.state.Core.frame.Goals as goal

pub state-requires-clause-frame : goal.state-requires-clause-frame
state-requires-clause-frame g c = frame_fits g.J.Tagged.tag _ c.args.f c.self.invariant (rw (sym c.self.view_is) at c.requires)

pub state-requires-clause-closed_flushed : goal.state-requires-clause-closed_flushed
state-requires-clause-closed_flushed g c = rw (c.closed.ensures.value) (closed_fits g.J.Tagged.tag _ c.self.invariant)

pub returns : goal.returns
returns g c = rw (sym c.self.view_is) (state_told g.J.Tagged.tag _ c.args.f _ _ _ (rw (sym c.self.view_is) at c.requires) c.safe_read_only.ensures.value c.closed.ensures.value c.state.ensures.state)
