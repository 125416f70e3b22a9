use Rattle.std.proofs.Common.{refl, sym, ◌∙◌}
use Rattle.hl_core.proofs.SeenLaws.{free_past, free_none, free_some}
use Rattle.hl_core.proofs.state.Core.may_acquire.Goals as goal

pub returns-in-None : goal.returns-in-None
returns-in-None g c = rw (sym c.self.view_is) (free_past g.J.Tagged.tag _ c.args.t _ refl c.in-None.ensures)

pub returns-in-Some-None : goal.returns-in-Some-None
returns-in-Some-None g c =
    let h = c.in-Some-None.ensures in
    rw (sym c.self.view_is) (free_none g.J.Tagged.tag _ c.args.t _ refl h.0 (h.1 ∙ c.in-Some-None.field-0-is))

pub returns-in-Some-Some : goal.returns-in-Some-Some
returns-in-Some-Some g c =
    let h = c.in-Some-Some.ensures in
    rw (sym c.self.view_is) (free_some g.J.Tagged.tag _ c.args.t _ c.in-Some-Some.field-0-0 refl h.0 (h.1 ∙ c.in-Some-Some.field-0-is))
