use Rattle.std.proofs.Common.{sym, ◌∙◌}
use Rattle.hl_core.proofs.HoldingStands.{over_early, over_ended}
use Rattle.hl_core.proofs.state.Core.is_over.Goals as goal

pub returns-then-is_before : goal.returns-then-is_before
returns-then-is_before g c =
    rw (sym c.self.view_is) (λ A st. c.is_err.ensures.value ∙ over_ended g.J.Tagged.tag _ c.args.ticket c.front.result c.may_end.result c.front.ensures.ticket (sym c.is_before.ensures ∙ c.if-is_before.true) (rw (sym c.self.view_is) at c.may_end.ensures) A st)

pub returns-else-is_before : goal.returns-else-is_before
returns-else-is_before g c =
    rw (sym c.self.view_is) (λ A st. c.if-is_before.false ∙ over_early g.J.Tagged.tag _ c.args.ticket c.front.result c.front.ensures.ticket (sym c.is_before.ensures ∙ c.if-is_before.false) A st)
