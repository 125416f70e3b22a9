use Rattle.hl.proofs.ActLaws.{looked_at}
use Rattle.hl.proofs.session.Session.look.Goals as goal

-- its rider has a trace
pub invariant_of-self : goal.invariant_of-self
invariant_of-self g c = (looked_at c.self.inside.log.now.sizes c.self.inside.pass _ _ _ c.look.ensures.pass c.self.invariant).0

pub returns-clause-did : goal.returns-clause-did
returns-clause-did g c = let m = looked_at c.self.inside.log.now.sizes c.self.inside.pass _ _ _ c.look.ensures.pass c.self.invariant in rw (← c.self.view_is) m.1
