use Rattle.std.proofs.Common.{rules, sym}
use Rattle.hl_core.proofs.DoneStands.{taken_told, untaken_told}
use Rattle.hl_core.proofs.state.Core.may_end.Goals as goal

pub returns-then-has_ticket : goal.returns-then-has_ticket
returns-then-has_ticket g c = rw (sym c.self.view_is) (taken_told g.J.Tagged.tag _ c.args.ticket c.taken_row.result.now c.taken_row.ensures.list (search rules))

pub returns-else-has_ticket : goal.returns-else-has_ticket
returns-else-has_ticket g c = rw (sym c.self.view_is) (untaken_told g.J.Tagged.tag _ c.args.ticket c.taken_row.result.now c.taken_row.ensures.list (search rules))
