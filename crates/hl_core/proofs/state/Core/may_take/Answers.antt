use Rattle.std.proofs.Common.{sym, ◌∙◌}
use Rattle.hl_core.proofs.TakeStands.{early_front, ready_front}
use Rattle.hl_core.proofs.state.Core.may_take.Goals as goal

pub returns-then-front-safe : goal.returns-then-front-safe
returns-then-front-safe g c = rw (sym c.self.view_is) (early_front g.J.Tagged.tag _ c.in-Some.front c.safe-safe.result (sym c.in-Some.is ∙ c.front.ensures.ticket) c.safe-safe.ensures.value c.if-front-safe.true)

pub returns : goal.returns
returns g c = rw (sym c.self.view_is) (ready_front g.J.Tagged.tag _ c.in-Some.front c.safe-safe.result (sym c.in-Some.is ∙ c.front.ensures.ticket) c.safe-safe.ensures.value c.if-front-safe.false)
