use Rattle.std.proofs.Common.{sym, ◌∙◌}
use Rattle.hl_core.proofs.PageFound.{may_end_flush}
use Rattle.hl_core.proofs.state.Core.may_end_flush.Goals as goal

pub returns-then-is_in_flight : goal.returns-then-is_in_flight
returns-then-is_in_flight g c = rw (sym c.self.view_is) (may_end_flush g.J.Tagged.tag _ c.args.page _ (sym c.if-is_in_flight.true ∙ c.is_in_flight.ensures))

pub returns-else-is_in_flight : goal.returns-else-is_in_flight
returns-else-is_in_flight g c = rw (sym c.self.view_is) (may_end_flush g.J.Tagged.tag _ c.args.page _ (sym c.if-is_in_flight.false ∙ c.is_in_flight.ensures))
