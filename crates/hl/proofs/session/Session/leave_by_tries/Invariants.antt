use Rattle.hl_crew.proofs.TryLaws.{Trying}
use Rattle.hl.specs.Sessions.{KeepsAllButRider, LeavesWith}
use Rattle.hl.specs.Traces.{OnlyMeets}
use Rattle.hl.proofs.session.Session.leave_by_tries.Given as goal

-- the session is as it was but for its rider, and as many tries were made as there were turns
abbrev pub invariant-loop : goal.invariant-loop
invariant-loop g l =
    KeepsAllButRider l.fn.self l.session
    × Trying g.row.F.Denot l.fn.self.log l.fn.may_cut (LeavesWith g.row.F.Denot l.fn.self) l.counter l.fn.self.pass.rider l.session.pass.rider
    × OnlyMeets l.fn.self l.session
