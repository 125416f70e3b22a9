use Rattle.hl.proofs.ActLaws.{plain_bare, stepped}
use Rattle.hl_model.specs.declared.step.Step.TheVariants.{Bare}
use Rattle.hl.proofs.session.Session.bare.Goals as goal

-- its rider has a trace
pub invariant_of-self : goal.invariant_of-self
invariant_of-self g c = (stepped g.row.F.Denot c.self.inside.log.now Bare c.self.inside.pass _ c.bare.result plain_bare (rw c.rider_mut.ensures.value at c.bare.ensures.met) c.self.invariant).1.0

pub returns-clause-did : goal.returns-clause-did
returns-clause-did g c = let m = stepped g.row.F.Denot c.self.inside.log.now Bare c.self.inside.pass _ c.bare.result plain_bare (rw c.rider_mut.ensures.value at c.bare.ensures.met) c.self.invariant in rw (← c.self.view_is) (m.0, m.1.1)
