use Rattle.std.proofs.Common.{sym}
use Rattle.std.proofs.lemmas.Result.{err_from_is_err_and}
use Rattle.hl_core.proofs.TakeStands.{take_err, take_ok}
use Rattle.hl_core.proofs.SlotStands.{still_stands}
use Rattle.hl_core.proofs.state.Core.take.Goals as goal

pub returns-in_err-ticket-clause-made : goal.returns-in_err-ticket-clause-made
returns-in_err-ticket-clause-made g c =
    let p = err_from_is_err_and c.from_residual.result c.from_residual.ensures.1 in
    rw (p.1, p.2, sym c.self.view_is) (take_err g.J.Tagged.tag _ c.safe-safe.result c.in_err-ticket.field-0.0 c.take.new.self c.safe-safe.ensures.value c.in_err-ticket.ensures.answer c.in_err-ticket.ensures.refused)

pub invariant_of-self-2 : goal.invariant_of-self-2
invariant_of-self-2 g c = still_stands g.J.Tagged.tag _ _ _ _ c.self.invariant (take_ok g.J.Tagged.tag _ c.safe-safe.result (c.in_ok-ticket.ticket, c.in_ok-ticket.action) c.take.new.self c.safe-safe.ensures.value c.in_ok-ticket.ensures.answer c.in_ok-ticket.ensures.lists c.take.ensures.valid)

pub returns-clause-made : goal.returns-clause-made
returns-clause-made g c =
    rw (c.new.ensures, sym c.self.view_is) (take_ok g.J.Tagged.tag _ c.safe-safe.result (c.in_ok-ticket.ticket, c.in_ok-ticket.action) c.take.new.self c.safe-safe.ensures.value c.in_ok-ticket.ensures.answer c.in_ok-ticket.ensures.lists c.take.ensures.valid)
