use Rattle.std.proofs.Common.{sym}
use Rattle.hl_core.proofs.PageFound.{may_flush}
use Rattle.hl_core.proofs.state.Core.may_take_to_flush.Goals as goal

pub returns-in-Some : goal.returns-in-Some
returns-in-Some g c = rw (sym c.self.view_is) (may_flush g.J.Tagged.tag _ _ _ c.safe_read_only.ensures.value c.in-Some.ensures.page)

pub returns-in-None : goal.returns-in-None
returns-in-None g c = rw (sym c.self.view_is) (may_flush g.J.Tagged.tag _ _ _ c.safe_read_only.ensures.value c.in-None.ensures.page)
