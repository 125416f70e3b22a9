use Rattle.hl.proofs.ActLaws.{exchanged_at}
use Rattle.hl.proofs.session.Session.compare_exchange.Goals as goal

-- its rider has a trace
pub invariant_of-self : goal.invariant_of-self
invariant_of-self g c = (exchanged_at c.self.inside.log.now.sizes c.self.inside.pass _ c.args.a c.args.new c.compare_exchange.result c.compare_exchange.ensures.answer c.compare_exchange.ensures.pass c.self.invariant).0

pub returns-clause-did : goal.returns-clause-did
returns-clause-did g c = let m = exchanged_at c.self.inside.log.now.sizes c.self.inside.pass _ c.args.a c.args.new c.compare_exchange.result c.compare_exchange.ensures.answer c.compare_exchange.ensures.pass c.self.invariant in rw (← c.self.view_is) m.1
