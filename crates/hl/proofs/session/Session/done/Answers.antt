use Rattle.std.proofs.Common.{Err, ap, ◌∙◌}
use Rattle.std.proofs.lemmas.Result.{err_from_is_err_and}
use Rattle.hl.proofs.ActLaws.{plain_done, quiet, made}
use Rattle.hl_model.specs.declared.step.Step.TheVariants.{Done}
use Rattle.hl.proofs.session.Session.done.Goals as goal

-- a refusal has the fault, and what was run
pub returns-in_err-done-clause-met : goal.returns-in_err-done-clause-met
returns-in_err-done-clause-met g c =
    let q = err_from_is_err_and c.from_residual.result c.from_residual.ensures.1 in
    rw (q.1 ∙ ap (λ f. Err f) q.2, ← c.self.view_is, ← c.rider_mut.ensures.value) c.in_err-done.ensures.met

-- its rider has a trace
pub invariant_of-self : goal.invariant_of-self
invariant_of-self g c = (quiet g.row.F.Denot c.self.inside.log.now c.self.inside.pass _ (rw c.rider_mut.ensures.value at c.in_err-done.ensures.met) c.self.invariant).1.0

pub returns-in_err-done-clause-did : goal.returns-in_err-done-clause-did
returns-in_err-done-clause-did g c =
    let m = quiet g.row.F.Denot c.self.inside.log.now c.self.inside.pass _ (rw c.rider_mut.ensures.value at c.in_err-done.ensures.met) c.self.invariant in
    rw (← c.self.view_is) (m.0, m.1.1)

-- its rider has a trace
pub invariant_of-self-2 : goal.invariant_of-self-2
invariant_of-self-2 g c = (made g.row.F.Denot c.self.inside.log.now (Done c.args.ran.ticket) c.self.inside.pass _ (plain_done c.args.ran.ticket) (rw c.rider_mut.ensures.value at c.in_ok-done.ensures.met) c.self.invariant).1.0

pub returns-clause-did : goal.returns-clause-did
returns-clause-did g c =
    let m = made g.row.F.Denot c.self.inside.log.now (Done c.args.ran.ticket) c.self.inside.pass _ (plain_done c.args.ran.ticket) (rw c.rider_mut.ensures.value at c.in_ok-done.ensures.met) c.self.invariant in
    rw (← c.self.view_is) (m.0, m.1.1)
