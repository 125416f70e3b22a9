use Rattle.std.proofs.Common.{refl, sym, ◌∙◌}
use Rattle.hl_core.proofs.SeenLaws.{seen_past, seen_none, seen_some}
use Rattle.hl_core.proofs.state.Core.seen.Goals as goal

pub returns-in-None : goal.returns-in-None
returns-in-None g c = rw (sym c.self.view_is) (seen_past g.J.Tagged.tag _ c.args.t _ refl c.in-None.ensures)

pub returns-in-Some-None : goal.returns-in-Some-None
returns-in-Some-None g c =
    let h = c.in-Some-None.ensures in
    rw (sym c.self.view_is) (seen_none g.J.Tagged.tag _ c.args.t _ refl h.0 (h.1 ∙ c.in-Some-None.field-0-is))

pub returns-in-Some-Some : goal.returns-in-Some-Some
returns-in-Some-Some g c =
    let h = c.in-Some-Some.ensures in
    rw (sym c.self.view_is) (seen_some g.J.Tagged.tag _ c.args.t _ c.in-Some-Some.view refl h.0 (h.1 ∙ c.in-Some-Some.field-0-is))
