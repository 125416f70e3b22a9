use Rattle.std.proofs.Common.{sym}
use Rattle.hl_core.proofs.SlotStands.{still_stands}
use Rattle.hl_core.proofs.PageStands.{flush_done_made}
use Rattle.hl_core.proofs.state.Core.flush_done.Goals as goal

pub invariant_of-self : goal.invariant_of-self
invariant_of-self g c = still_stands g.J.Tagged.tag _ _ _ _ c.self.invariant (flush_done_made g.J.Tagged.tag _ c.args.page c.args.ok c.flush_done.result c.flush_done.new.self.pages c.flush_done.ensures.answer c.flush_done.ensures.pages)

pub returns-clause-made : goal.returns-clause-made
returns-clause-made g c =
    rw (sym c.self.view_is) (flush_done_made g.J.Tagged.tag _ c.args.page c.args.ok c.flush_done.result c.flush_done.new.self.pages c.flush_done.ensures.answer c.flush_done.ensures.pages)
