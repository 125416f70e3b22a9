use Rattle.std.proofs.Common.{sym}
use Rattle.hl_core.proofs.AskStands.{bare_made}
use Rattle.hl_core.proofs.SlotStands.{still_stands}
use Rattle.hl_core.proofs.state.Core.bare.Goals as goal

pub invariant_of-self : goal.invariant_of-self
invariant_of-self g c = still_stands g.J.Tagged.tag _ _ _ _ c.self.invariant (bare_made g.J.Tagged.tag _ c.end_epoch.result (g.E.Epochs.table c.end_epoch.new.table) c.end_epoch.ensures.answer c.end_epoch.ensures.effect)

pub returns-clause-made : goal.returns-clause-made
returns-clause-made g c =
    rw (sym c.self.view_is) (bare_made g.J.Tagged.tag _ c.end_epoch.result (g.E.Epochs.table c.end_epoch.new.table) c.end_epoch.ensures.answer c.end_epoch.ensures.effect)
