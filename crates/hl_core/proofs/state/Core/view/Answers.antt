use Rattle.std.proofs.Common.{refl, sym}
use Rattle.hl_core.proofs.SeenLaws.{view_past, view_is, view_bounded}
use Rattle.hl_core.proofs.state.Core.view.Goals as goal

pub returns-in_err-get-clause-value : goal.returns-in_err-get-clause-value
returns-in_err-get-clause-value g c = rw (c.from_residual.ensures, sym c.self.view_is) (view_past g.J.Tagged.tag _ c.args.t _ refl c.in_err-get.ensures)

pub returns-clause-value : goal.returns-clause-value
returns-clause-value g c =
    let h = c.in_ok-get.ensures in
    rw (sym c.self.view_is) (view_is g.J.Tagged.tag _ c.args.t _ c.in_ok-get.field-0 refl h.0 h.1)

pub returns-clause-bounded : goal.returns-clause-bounded
returns-clause-bounded g c =
    let h = c.in_ok-get.ensures in
    rw (sym c.self.view_is) (view_bounded g.J.Tagged.tag _ c.args.t _ c.in_ok-get.field-0 c.self.invariant refl h.0 h.1)
