use Rattle.hl.proofs.ActLaws.{quiet}
use Rattle.hl.proofs.session.Session.snapshot.Goals as goal

-- its rider has a trace
pub invariant_of-self : goal.invariant_of-self
invariant_of-self g c = (quiet g.row.F.Denot c.self.inside.log.now c.self.inside.pass _ (rw c.rider_mut.ensures.value at c.snapshot_by.ensures.met) c.self.invariant).1.0

pub returns-clause-did : goal.returns-clause-did
returns-clause-did g c = let m = quiet g.row.F.Denot c.self.inside.log.now c.self.inside.pass _ (rw c.rider_mut.ensures.value at c.snapshot_by.ensures.met) c.self.invariant in rw (← c.self.view_is) (m.0, m.1.1)
