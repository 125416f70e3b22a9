use Rattle.std.proofs.Common.{rules, sym}
use Rattle.hl_core.proofs.AskStands.{full_told, room_told}
use Rattle.hl_core.proofs.state.Core.may_bump.Goals as goal

pub returns-then-not-has_room : goal.returns-then-not-has_room
returns-then-not-has_room g c = rw (sym c.self.view_is) (full_told g.J.Tagged.tag _ (search rules))

pub returns : goal.returns
returns g c = λ A st. room_told g.J.Tagged.tag _ c.may_bare.result (search rules) A st (c.may_bare.ensures A st)
