use Rattle.hl.proofs.ActLaws.{made_room}
use Rattle.hl.proofs.session.Session.make_room.Goals as goal

-- its rider has a trace
pub invariant_of-self : goal.invariant_of-self
invariant_of-self g c = (made_room g.row.F.Denot c.self.inside.log.now c.make_room.result c.self.inside.pass _ (rw c.rider_mut.ensures.value at c.make_room.ensures.room) c.self.invariant).2.0

pub returns-clause-did : goal.returns-clause-did
returns-clause-did g c = let m = made_room g.row.F.Denot c.self.inside.log.now c.make_room.result c.self.inside.pass _ (rw c.rider_mut.ensures.value at c.make_room.ensures.room) c.self.invariant in rw (← c.self.view_is) (m.0, m.1, m.2.1)
