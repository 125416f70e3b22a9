use Rattle.hl.proofs.ActLaws.{plain_take, stepped}
use Rattle.hl_model.specs.declared.step.Step.TheVariants.{Take}
use Rattle.hl.proofs.session.Session.take.Goals as goal

-- the log of the session is that of the call, and so is its rider
pub returns-clause-met : goal.returns-clause-met
returns-clause-met g c = rw (← c.self.view_is, ← c.rider_mut.ensures.value) c.take.ensures.met

-- its rider has a trace
pub invariant_of-self : goal.invariant_of-self
invariant_of-self g c = (stepped g.row.F.Denot c.self.inside.log.now Take c.self.inside.pass _ c.take.result plain_take (rw c.rider_mut.ensures.value at c.take.ensures.met) c.self.invariant).1.0

pub returns-clause-did : goal.returns-clause-did
returns-clause-did g c = let m = stepped g.row.F.Denot c.self.inside.log.now Take c.self.inside.pass _ c.take.result plain_take (rw c.rider_mut.ensures.value at c.take.ensures.met) c.self.invariant in rw (← c.self.view_is) (m.0, m.1.1)
