use Rattle.hl.proofs.ActLaws.{plain_raise, stepped}
use Rattle.hl_model.specs.declared.step.Step.TheVariants.{Raise}
use Rattle.hl.proofs.session.Session.raise.Goals as goal

-- its rider has a trace
pub invariant_of-self : goal.invariant_of-self
invariant_of-self g c = (stepped g.row.F.Denot c.self.inside.log.now (Raise c.args.x) c.self.inside.pass _ c.raise.result (plain_raise c.args.x) (rw c.rider_mut.ensures.value at c.raise.ensures.met) c.self.invariant).1.0

pub returns-clause-did : goal.returns-clause-did
returns-clause-did g c =
    let m = stepped g.row.F.Denot c.self.inside.log.now (Raise c.args.x) c.self.inside.pass _ c.raise.result (plain_raise c.args.x) (rw c.rider_mut.ensures.value at c.raise.ensures.met) c.self.invariant in
    rw (← c.self.view_is) (m.0, m.1.1)
