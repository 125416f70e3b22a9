use Rattle.std.proofs.Common.{sym, ◌∙◌}
use Rattle.hl_core.proofs.PageFound.{may_end_cleaning}
use Rattle.hl_core.proofs.state.Core.may_end_cleaning.Goals as goal

pub returns-then-is_cleaning : goal.returns-then-is_cleaning
returns-then-is_cleaning g c = rw (sym c.self.view_is) (may_end_cleaning g.J.Tagged.tag _ c.args.page _ (sym c.if-is_cleaning.true ∙ c.is_cleaning.ensures))

pub returns-else-is_cleaning : goal.returns-else-is_cleaning
returns-else-is_cleaning g c = rw (sym c.self.view_is) (may_end_cleaning g.J.Tagged.tag _ c.args.page _ (sym c.if-is_cleaning.false ∙ c.is_cleaning.ensures))
