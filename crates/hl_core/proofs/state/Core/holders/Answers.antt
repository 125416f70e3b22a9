use Rattle.std.proofs.Common.{sym, ap, ◌∙◌, take, arith, []}
use Rattle.std.proofs.lemmas.List.{take_all}
use Rattle.hl_core.proofs.HoldingStands.{oldest_none, oldest_some}
use Rattle.hl_core.proofs.state.Core.holders.Goals as goal

pub returns-in_err-ticket-clause-ticket : goal.returns-in_err-ticket-clause-ticket
returns-in_err-ticket-clause-ticket g c =
    rw (c.from_residual.ensures, sym c.self.view_is) (λ A st. (oldest_none g.J.Tagged.tag _ c.in_err-ticket.ensures.ticket A st).0)

pub returns-in_err-ticket-clause-row : goal.returns-in_err-ticket-clause-row
returns-in_err-ticket-clause-row g c =
    rw (c.clear.ensures, sym c.self.view_is) (λ A st. sym (take_all g.row.N [] (omega arith)) ∙ ap (take g.row.N) (oldest_none g.J.Tagged.tag _ c.in_err-ticket.ensures.ticket A st).1)

pub returns-clause-ticket : goal.returns-clause-ticket
returns-clause-ticket g c =
    rw (sym c.self.view_is) (λ A st. (oldest_some g.J.Tagged.tag _ c.in_ok-ticket.ticket c.in_ok-ticket.ensures.ticket A st).0)

pub returns-clause-row : goal.returns-clause-row
returns-clause-row g c =
    let held = rw (sym c.self.view_is) at c.hold.ensures in
    rw (sym c.self.view_is) (λ A st. held A st ∙ ap (take g.row.N) (oldest_some g.J.Tagged.tag _ c.in_ok-ticket.ticket c.in_ok-ticket.ensures.ticket A st).1)
