use Rattle.std.proofs.Common.{◌+◌, ◌%◌, ◌^◌}
use Rattle.hl.proofs.ActLaws.{changed_at}
use Rattle.hl.proofs.session.Session.fetch_add.Goals as goal

-- its rider has a trace
pub invariant_of-self : goal.invariant_of-self
invariant_of-self g c = (changed_at c.self.inside.log.now.sizes c.self.inside.pass _ c.args.a (λ found. (found + c.args.more) % 2 ^ 64) c.fetch_add.result c.fetch_add.ensures.answer c.fetch_add.ensures.pass c.self.invariant).0

pub returns-clause-did : goal.returns-clause-did
returns-clause-did g c = let m = changed_at c.self.inside.log.now.sizes c.self.inside.pass _ c.args.a (λ found. (found + c.args.more) % 2 ^ 64) c.fetch_add.result c.fetch_add.ensures.answer c.fetch_add.ensures.pass c.self.invariant in rw (← c.self.view_is) m.1
