use Rattle.hl.proofs.ActLaws.{regioned}
use Rattle.hl.proofs.session.Session.region.Goals as goal

-- its rider has a trace
pub invariant_of-self : goal.invariant_of-self
invariant_of-self g c = (regioned c.self.inside.log.now.sizes c.self.inside.pass _ c.args.a c.region.result c.region.ensures.region c.region.ensures.beyond c.self.invariant).0

pub returns-clause-did : goal.returns-clause-did
returns-clause-did g c = let m = regioned c.self.inside.log.now.sizes c.self.inside.pass _ c.args.a c.region.result c.region.ensures.region c.region.ensures.beyond c.self.invariant in rw (← c.self.view_is) m.1
