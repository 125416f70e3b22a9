use Rattle.std.proofs.Common.{sym}
use Rattle.hl_core.proofs.PageFound.{closed_fits}
use Rattle.hl_core.proofs.FrameCounts.{flushed_fits, freed_fits, counts_told}
use Rattle.hl_core.proofs.state.Core.frame_counts.Goals as goal

pub counts-requires-clause-closed_flushed : goal.counts-requires-clause-closed_flushed
counts-requires-clause-closed_flushed g c = rw (c.closed.ensures.value) (closed_fits g.J.Tagged.tag _ c.self.invariant)

pub counts-requires-clause-flushed_sealed : goal.counts-requires-clause-flushed_sealed
counts-requires-clause-flushed_sealed g c = rw (c.safe_read_only.ensures.value) (flushed_fits g.J.Tagged.tag _ c.self.invariant)

pub counts-requires-clause-freed_closed : goal.counts-requires-clause-freed_closed
counts-requires-clause-freed_closed g c = rw (c.closed.ensures.value) (freed_fits g.J.Tagged.tag _ c.self.invariant)

pub returns : goal.returns
returns g c = rw (sym c.self.view_is) (counts_told g.J.Tagged.tag _ _ _ _ c.safe_read_only.ensures.value c.closed.ensures.value c.counts.ensures.counts)
