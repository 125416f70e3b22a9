use Rattle.std.proofs.Common.{refl, sym, ◌∙◌}
use Rattle.std.specs.Prelude.{None}
use Rattle.std.proofs.lemmas.List.{get_or_past}
use Rattle.hl_core.proofs.BaseStands.{slot_at}
use Rattle.hl_core.proofs.base.CoreQuantities.slot.Goals as goal

pub returns-in_err-epoch : goal.returns-in_err-epoch
returns-in_err-epoch g c =
    rw (c.from_residual.ensures, sym c.self.view_is) (slot_at g.J.Tagged.tag _ c.args.t None _ (rw (sym c.self.view_is) at c.requires) c.in_err-epoch.ensures.value refl)

pub returns-in_err-get : goal.returns-in_err-get
returns-in_err-get g c =
    rw (c.from_residual-in_err-get.ensures, sym c.self.view_is) (slot_at g.J.Tagged.tag _ c.args.t _ None (rw (sym c.self.view_is) at c.requires) c.in_ok-epoch.ensures.value (sym (get_or_past _ c.args.t None c.in_err-get.ensures)))

pub returns-in_err-view : goal.returns-in_err-view
returns-in_err-view g c =
    rw (c.from_residual-in_err-view.ensures, sym c.self.view_is) (slot_at g.J.Tagged.tag _ c.args.t _ None (rw (sym c.self.view_is) at c.requires) c.in_ok-epoch.ensures.value (sym c.in_err-view.was ∙ sym c.in_ok-get.ensures.1))

pub returns : goal.returns
returns g c =
    rw (sym c.self.view_is) (slot_at g.J.Tagged.tag _ c.args.t _ _ (rw (sym c.self.view_is) at c.requires) c.in_ok-epoch.ensures.value (sym c.in_ok-view.was ∙ sym c.in_ok-get.ensures.1))
