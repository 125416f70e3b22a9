use Rattle.std.proofs.Common.{Some, None, refl, sym, ◌∙◌}
use Rattle.hl_core.proofs.HoldingStands.{free_told}
use Rattle.hl_core.proofs.state.Core.least_free.Goals as goal

pub returns-in-Some : goal.returns-in-Some
returns-in-Some g c = rw (sym c.self.view_is) (free_told g.J.Tagged.tag _ _ (Some c.in-Some.t) refl (sym c.in-Some.is ∙ c.first_free.ensures))

pub returns-in-None : goal.returns-in-None
returns-in-None g c = rw (sym c.self.view_is) (λ A st. c.slots.ensures.value ∙ free_told g.J.Tagged.tag _ _ None refl (sym c.in-None.is ∙ c.first_free.ensures) A st)
