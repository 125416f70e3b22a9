use Rattle.std.proofs.Common.{ap, ◌∙◌, sym}
use Rattle.hl_keeper.specs.Passes.{seen}
use Rattle.hl_keeper.proofs.CallLaws.{behind_then, behind_else}
use Rattle.hl_keeper.proofs.keeper.Keeper.is_behind.Goals as goal

pub returns-then-seen-six : goal.returns-then-seen-six
returns-then-seen-six g c =
    rw (sym c.self.view_is) (λ A st. behind_then A c.args.pass.now c.pass.inside.own.view c.six-six.result c.self.inside.core.sizes (c.pass.invariant.0 ∙ ap seen c.pass.view_is) (c.six-six.ensures.value A st.core_stands) c.if-seen-six.true)

pub returns-else-seen-six : goal.returns-else-seen-six
returns-else-seen-six g c =
    rw (sym c.self.view_is) (λ A st. behind_else A c.args.pass.now c.pass.inside.own.view c.six-six.result c.self.inside.core.sizes (c.pass.invariant.0 ∙ ap seen c.pass.view_is) (c.six-six.ensures.value A st.core_stands) c.if-seen-six.false)
