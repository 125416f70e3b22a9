use Rattle.std.proofs.Common.{ap, sym, ◌∙◌, arith, find, length}
use Rattle.std.proofs.lemmas.List.{take_all}
use Rattle.hl_plain.proofs.FindLaws.{has_ticket, ticket-hit, ticket-miss}
use Rattle.hl_plain.proofs.replies.taken_at.Goals as goal

pub returns-then-action-ticket : goal.returns-then-action-ticket
returns-then-action-ticket c =
    ticket-hit c.args.ticket c.as_slice-action-items.result.now c.args.present.now.taken c.loop-action.action-index _ (c.as_slice-action-items.ensures.value ∙ c.taken-taken.ensures) c.loop-action-test.true c.loop-action.invariant c.if-action-ticket.true

pub loop-action-preserved : goal.loop-action-preserved
loop-action-preserved c =
    ticket-miss c.args.ticket c.as_slice-action-items.result.now c.args.present.now.taken c.loop-action.action-index _ (c.as_slice-action-items.ensures.value ∙ c.taken-taken.ensures) c.loop-action-test.true c.loop-action.invariant c.if-action-ticket.false

pub returns : goal.returns
returns c =
    let same = c.as_slice-action-items.ensures.value ∙ c.taken-taken.ensures in
    sym c.loop-action.invariant ∙ ap (find (has_ticket c.args.ticket)) (take_all c.loop-action.action-index c.args.present.now.taken (omega (arith, c.loop-action-test.false, ap length same)))
