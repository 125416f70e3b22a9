use Rattle.hl.proofs.ActLaws.{refreshed}
use Rattle.hl.proofs.session.Session.refresh.Goals as goal

-- the log and the pass of the session are those of the call
pub returns-clause-refreshed : goal.returns-clause-refreshed
returns-clause-refreshed g c = rw (← c.self.view_is) c.refresh.ensures

-- its rider has a trace
pub invariant_of-self : goal.invariant_of-self
invariant_of-self g c = (refreshed g.row.F.Denot c.self.inside.log.now c.self.inside.pass _ c.refresh.result c.refresh.ensures c.self.invariant).1.0

pub returns-clause-did : goal.returns-clause-did
returns-clause-did g c = let m = refreshed g.row.F.Denot c.self.inside.log.now c.self.inside.pass _ c.refresh.result c.refresh.ensures c.self.invariant in rw (← c.self.view_is) (m.0, m.1.1)
