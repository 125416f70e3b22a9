use Rattle.std.proofs.Common.{sym}
use Rattle.hl_core.proofs.HoldingStands.{holds_none, holds_at, holds_past}
use Rattle.hl_core.proofs.state.Core.holder.Goals as goal

pub returns-in_err-epoch : goal.returns-in_err-epoch
returns-in_err-epoch g c = rw (c.from_residual.ensures, sym c.self.view_is) (holds_none g.J.Tagged.tag _ c.args.ticket c.args.t (rw (sym c.self.view_is) at c.requires) c.in_err-epoch.ensures.value)

pub returns-then-epoch-ticket : goal.returns-then-epoch-ticket
returns-then-epoch-ticket g c = rw (sym c.self.view_is) (holds_at g.J.Tagged.tag _ c.args.ticket c.args.t c.in_ok-epoch.epoch (rw (sym c.self.view_is) at c.requires) c.in_ok-epoch.ensures.value c.if-epoch-ticket.true)

pub returns-else-epoch-ticket : goal.returns-else-epoch-ticket
returns-else-epoch-ticket g c = rw (sym c.self.view_is) (holds_past g.J.Tagged.tag _ c.args.ticket c.args.t c.in_ok-epoch.epoch (rw (sym c.self.view_is) at c.requires) c.in_ok-epoch.ensures.value c.if-epoch-ticket.false)
