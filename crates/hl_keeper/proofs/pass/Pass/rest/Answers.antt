use Rattle.std.proofs.Common.{◌≡◌, subst, sym}
use Rattle.hl_pass.specs.declared.pass_view.PassView.{PassView}
use Rattle.hl_keeper.specs.Touches.{view_after, AreTouches}
use Rattle.hl_keeper.proofs.TouchLaws.{no_touch}
use Rattle.hl_keeper.proofs.pass.Pass.rest.Goals as goal

pub invariant_of-self : goal.invariant_of-self
invariant_of-self g c =
    subst (λ (o : PassView). (o.view ≡ view_after o.held c.clear.new.self) × AreTouches o.slot o.held c.clear.new.self) (sym c.rest.ensures) (no_touch c.self.inside.own.slot c.args.view c.clear.new.self c.clear.ensures)
