use Rattle.std.proofs.Common.{sym}
use Rattle.hl_core.proofs.SlotStands.{still_stands}
use Rattle.hl_core.proofs.PageFound.{sealed_fits}
use Rattle.hl_core.proofs.PageStands.{flush_take_made}
use Rattle.hl_core.proofs.state.Core.flush_take.Goals as goal

pub flush_take-requires : goal.flush_take-requires
flush_take-requires g c = rw (c.safe_read_only-safe_read_only.ensures.value) (sealed_fits g.J.Tagged.tag _ c.self.invariant)

pub invariant_of-self : goal.invariant_of-self
invariant_of-self g c = still_stands g.J.Tagged.tag _ _ _ _ c.self.invariant (flush_take_made g.J.Tagged.tag _ _ c.flush_take.result c.flush_take.new.self.pages c.safe_read_only-safe_read_only.ensures.value c.flush_take.ensures.answer c.flush_take.ensures.pages)

pub returns-clause-made : goal.returns-clause-made
returns-clause-made g c =
    rw (sym c.self.view_is) (flush_take_made g.J.Tagged.tag _ _ c.flush_take.result c.flush_take.new.self.pages c.safe_read_only-safe_read_only.ensures.value c.flush_take.ensures.answer c.flush_take.ensures.pages)
