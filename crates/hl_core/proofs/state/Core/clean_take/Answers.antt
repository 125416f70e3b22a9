use Rattle.std.proofs.Common.{sym}
use Rattle.hl_core.proofs.PageFound.{closed_fits}
use Rattle.hl_core.proofs.SlotStands.{still_stands}
use Rattle.hl_core.proofs.PageStands.{clean_take_made}
use Rattle.hl_core.proofs.state.Core.clean_take.Goals as goal

pub clean_take-requires : goal.clean_take-requires
clean_take-requires g c = rw (c.closed-closed.ensures.value) (closed_fits g.J.Tagged.tag _ c.self.invariant)

pub invariant_of-self : goal.invariant_of-self
invariant_of-self g c = still_stands g.J.Tagged.tag _ _ _ _ c.self.invariant (clean_take_made g.J.Tagged.tag _ _ c.clean_take.result c.clean_take.new.self.pages c.closed-closed.ensures.value c.clean_take.ensures.answer c.clean_take.ensures.pages)

pub returns-clause-made : goal.returns-clause-made
returns-clause-made g c =
    rw (sym c.self.view_is) (clean_take_made g.J.Tagged.tag _ _ c.clean_take.result c.clean_take.new.self.pages c.closed-closed.ensures.value c.clean_take.ensures.answer c.clean_take.ensures.pages)
