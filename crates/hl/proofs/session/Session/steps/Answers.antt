use Rattle.hl.proofs.ActLaws.{counted}
use Rattle.hl.proofs.session.Session.steps.Goals as goal

-- its rider has a trace
pub invariant_of-self : goal.invariant_of-self
invariant_of-self g c = (counted g.row.F.Denot c.self.inside.log.now c.steps_by.result c.self.inside.pass _ (rw c.rider_mut.ensures.value at c.steps_by.ensures.met) c.self.invariant).0

pub returns-clause-did : goal.returns-clause-did
returns-clause-did g c = let m = counted g.row.F.Denot c.self.inside.log.now c.steps_by.result c.self.inside.pass _ (rw c.rider_mut.ensures.value at c.steps_by.ensures.met) c.self.invariant in rw (← c.self.view_is) m.1
