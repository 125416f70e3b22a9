use Rattle.std.proofs.Common.{sym, ◌∙◌}
use Rattle.hl_core.proofs.BaseStands.{told_is, told_base, told_sizes}
use Rattle.hl_core.proofs.state.Core.base_into.Goals as goal

pub renew-requires-clause-base : goal.renew-requires-clause-base
renew-requires-clause-base g c = rw (sym c.self.view_is) (told_base g.J.Tagged.tag _ c.self.invariant)

pub renew-requires-clause-sizes : goal.renew-requires-clause-sizes
renew-requires-clause-sizes g c = told_sizes g.J.Tagged.tag _ ∙ sym c.requires.same_sizes

pub returns : goal.returns
returns g c = λ A st. c.renew.ensures ∙ told_is g.J.Tagged.tag _ A st
