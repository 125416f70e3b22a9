use Rattle.hl_keeper.specs.Calls.{without_back}
use Rattle.hl.proofs.ActLaws.{ended}
use Rattle.hl.proofs.session.Session.end.Goals as goal

-- its rider has a trace
pub invariant_of-self : goal.invariant_of-self
invariant_of-self g c = (ended g.row.F.Denot c.self.inside.log.now c.args.ran.origin c.args.ran.ticket c.self.inside.pass (without_back c.end_by_tries.result) _ (rw c.rider_mut.ensures.value at c.end_by_tries.ensures.met) c.self.invariant).2.0

pub returns-clause-did : goal.returns-clause-did
returns-clause-did g c = let m = ended g.row.F.Denot c.self.inside.log.now c.args.ran.origin c.args.ran.ticket c.self.inside.pass (without_back c.end_by_tries.result) _ (rw c.rider_mut.ensures.value at c.end_by_tries.ensures.met) c.self.invariant in rw (← c.self.view_is) (m.0, m.1, m.2.1)
