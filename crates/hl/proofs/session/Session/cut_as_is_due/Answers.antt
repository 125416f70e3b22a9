use Rattle.hl.proofs.ActLaws.{due}
use Rattle.hl.proofs.session.Session.cut_as_is_due.Goals as goal

-- its rider has a trace
pub invariant_of-self : goal.invariant_of-self
invariant_of-self g c = (due g.row.F.Denot c.self.inside.log.now c.self.inside.beside.cuts c.self.inside.pass _ (rw c.rider_mut.ensures.value at c.cut_if_due.ensures) c.self.invariant).2.0

pub returns-clause-did : goal.returns-clause-did
returns-clause-did g c = let m = due g.row.F.Denot c.self.inside.log.now c.self.inside.beside.cuts c.self.inside.pass _ (rw c.rider_mut.ensures.value at c.cut_if_due.ensures) c.self.invariant in rw (← c.self.view_is) (m.0, m.1, m.2.1)
