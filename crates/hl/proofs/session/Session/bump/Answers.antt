use Rattle.std.proofs.Common.{Err, ap, ◌∙◌}
use Rattle.std.proofs.lemmas.Result.{err_from_is_err_and}
use Rattle.hl.proofs.ActLaws.{quiet, asked_is, made}
use Rattle.hl_core.specs.Steps.{asking}
use Rattle.hl_keeper.specs.Keepers.{job_tag}
use Rattle.hl.proofs.session.Session.bump.Goals as goal

-- a refusal has the fault, and what was asked for
pub returns-in_err-bump-clause-met : goal.returns-in_err-bump-clause-met
returns-in_err-bump-clause-met g c =
    let q = err_from_is_err_and c.from_residual.result c.from_residual.ensures.1 in
    rw (q.1 ∙ ap (λ f. Err f) q.2, ← c.self.view_is, ← c.rider_mut.ensures.value) c.in_err-bump.ensures.met

-- its rider has a trace
pub invariant_of-self : goal.invariant_of-self
invariant_of-self g c = (quiet g.row.F.Denot c.self.inside.log.now c.self.inside.pass _ (rw c.rider_mut.ensures.value at c.in_err-bump.ensures.met) c.self.invariant).1.0

pub returns-in_err-bump-clause-did : goal.returns-in_err-bump-clause-did
returns-in_err-bump-clause-did g c =
    let m = quiet g.row.F.Denot c.self.inside.log.now c.self.inside.pass _ (rw c.rider_mut.ensures.value at c.in_err-bump.ensures.met) c.self.invariant in
    rw (← c.self.view_is) (m.0, m.1.1)

-- its rider has a trace
pub invariant_of-self-2 : goal.invariant_of-self-2
invariant_of-self-2 g c =
    (made g.row.F.Denot c.self.inside.log.now (asking job_tag c.args.ask) c.self.inside.pass _ (asked_is job_tag c.args.ask) (rw c.rider_mut.ensures.value at c.in_ok-bump.ensures.met) c.self.invariant).1.0

pub returns-clause-did : goal.returns-clause-did
returns-clause-did g c =
    let m = made g.row.F.Denot c.self.inside.log.now (asking job_tag c.args.ask) c.self.inside.pass _ (asked_is job_tag c.args.ask) (rw c.rider_mut.ensures.value at c.in_ok-bump.ensures.met) c.self.invariant in
    rw (← c.self.view_is) (m.0, m.1.1)
