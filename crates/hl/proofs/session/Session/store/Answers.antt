use Rattle.hl.proofs.ActLaws.{stored_at}
use Rattle.hl.proofs.session.Session.store.Goals as goal

-- its rider has a trace
pub invariant_of-self : goal.invariant_of-self
invariant_of-self g c = (stored_at c.self.inside.log.now.sizes c.self.inside.pass _ c.args.a c.args.v c.store.result c.store.ensures.answer c.store.ensures.pass c.self.invariant).0

pub returns-clause-did : goal.returns-clause-did
returns-clause-did g c = let m = stored_at c.self.inside.log.now.sizes c.self.inside.pass _ c.args.a c.args.v c.store.result c.store.ensures.answer c.store.ensures.pass c.self.invariant in rw (← c.self.view_is) m.1
