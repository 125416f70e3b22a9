use Rattle.std.proofs.Common.{sym}
use Rattle.hl_core.proofs.OffsetStands.{six_is, six_in_order}
use Rattle.hl_core.proofs.state.Core.six.Goals as goal

pub returns-clause-value : goal.returns-clause-value
returns-clause-value g c = rw (sym c.self.view_is) (six_is g.J.Tagged.tag _ c.flushed_until.result c.six.result c.flushed_until.ensures.offset c.six.ensures.value)

pub returns-clause-in_order : goal.returns-clause-in_order
returns-clause-in_order g c = rw (sym c.self.view_is) (six_in_order g.J.Tagged.tag _ c.flushed_until.result c.six.result c.self.invariant c.flushed_until.ensures.offset c.six.ensures.value)
