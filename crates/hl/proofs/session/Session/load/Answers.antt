use Rattle.hl.proofs.ActLaws.{loaded_at}
use Rattle.hl.proofs.session.Session.load.Goals as goal

-- its rider has a trace
pub invariant_of-self : goal.invariant_of-self
invariant_of-self g c = (loaded_at c.self.inside.log.now.sizes c.self.inside.pass _ c.args.a c.load.result c.load.ensures.answer c.load.ensures.pass c.self.invariant).0

pub returns-clause-did : goal.returns-clause-did
returns-clause-did g c = let m = loaded_at c.self.inside.log.now.sizes c.self.inside.pass _ c.args.a c.load.result c.load.ensures.answer c.load.ensures.pass c.self.invariant in rw (← c.self.view_is) m.1
