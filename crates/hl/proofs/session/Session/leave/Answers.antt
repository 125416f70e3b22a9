use Rattle.std.proofs.Common.{sym, subst}
use Rattle.hl_traces.specs.Traces.{PassTraces}
use Rattle.hl.proofs.ActLaws.{quiet, released}
use Rattle.hl.proofs.session.Session.leave.Goals as goal

-- the log and the pass of the session are those of the call
pub returns-in-Ok-clause-met : goal.returns-in-Ok-clause-met
returns-in-Ok-clause-met g c = rw (← c.self.view_is) c.in-Ok.ensures.met

-- the log and the pass of the session are those of the call
pub returns-in-Err-clause-met : goal.returns-in-Err-clause-met
returns-in-Err-clause-met g c = rw (← c.self.view_is) c.in-Err.ensures.met

-- its rider has a trace
pub invariant_of-result : goal.invariant_of-result
invariant_of-result g c =
    let m = quiet g.row.F.Denot c.self.inside.log.now c.self.inside.pass c.in-Err.pass.rider c.in-Err.ensures.met c.self.invariant in
    subst (PassTraces c.self.inside.log.now.sizes) (sym c.in-Err.ensures.refused) m.1.0

pub returns-in-Err-clause-did : goal.returns-in-Err-clause-did
returns-in-Err-clause-did g c =
    let m = quiet g.row.F.Denot c.self.inside.log.now c.self.inside.pass c.in-Err.pass.rider c.in-Err.ensures.met c.self.invariant in
    rw (← c.self.view_is) (m.0, m.1.1)

pub returns-in-Ok-clause-did : goal.returns-in-Ok-clause-did
returns-in-Ok-clause-did g c = rw (← c.self.view_is) (released g.row.F.Denot c.self.inside.log.now c.self.inside.pass c.in-Ok.rider c.in-Ok.ensures.met c.self.invariant)
