use Rattle.hl.proofs.ActLaws.{leased}
use Rattle.hl.proofs.session.Session.lease.Goals as goal

-- the log and the pass of the session are those of the call
pub returns-clause-met : goal.returns-clause-met
returns-clause-met g c = rw (← c.self.view_is) c.lease.ensures.met

-- its rider has a trace
pub invariant_of-self : goal.invariant_of-self
invariant_of-self g c = (leased g.row.F.Denot c.self.inside.log.now c.args.n c.self.inside.pass _ c.lease.result c.lease.ensures.met c.lease.ensures.pass c.lease.ensures.piece c.self.invariant).1.0

pub returns-clause-did : goal.returns-clause-did
returns-clause-did g c = let m = leased g.row.F.Denot c.self.inside.log.now c.args.n c.self.inside.pass _ c.lease.result c.lease.ensures.met c.lease.ensures.pass c.lease.ensures.piece c.self.invariant in rw (← c.self.view_is) (m.0, m.1.1)
