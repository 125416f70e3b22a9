use Rattle.hl_core.proofs.HoldingStands.{HoldersTo}
use Rattle.hl_core.proofs.state.Core.hold.Given as goal

abbrev pub invariant-loop-t : goal.invariant-loop-t
invariant-loop-t g l = HoldersTo g.J.Tagged.tag l.self g.row.N l.ticket l.row.items l.t
