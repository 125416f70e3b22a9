use Rattle.std.proofs.Common.{sym, subst}
use Rattle.hl_keeper.specs.Passes.{with_rider}
use Rattle.hl.specs.Traces.{PassMeets}
use Rattle.hl.proofs.ActLaws.{due, one_met, quiet, rested, then_met}
use Rattle.hl.proofs.session.pause.rest_of.Goals as goal

-- it left, once the journal was cut as is due, and entered again
pub returns-in-Ok-clause-did : goal.returns-in-Ok-clause-did
returns-in-Ok-clause-did g c = λ h.
    let cut = due g.row.F.Denot c.args.log.now c.args.cuts c.args.pass _ (rw c.rider_mut.ensures.value at c.cut_if_due.ensures) h in
    rested g.row.F.Denot c.args.log.now c.args.pass.rider (with_rider _ c.args.pass) c.in-Ok.gone.rider c.enter-pass.result.0 cut c.in-Ok.ensures.left
    (rw c.call.ensures.rider at c.enter-pass.ensures.did)

-- it couldn't leave
pub returns-in-Err-clause-did : goal.returns-in-Err-clause-did
returns-in-Err-clause-did g c = λ h.
    let cut = due g.row.F.Denot c.args.log.now c.args.cuts c.args.pass _ (rw c.rider_mut.ensures.value at c.cut_if_due.ensures) h in
    let p = with_rider _ c.args.pass in
    subst (PassMeets c.args.log.now c.args.pass.rider) (sym c.in-Err.ensures.left.1)
    (then_met g.row.F.Denot c.args.log.now c.args.pass.rider p (with_rider c.in-Err.pass.rider p) cut (λ m. one_met g.row.F.Denot c.args.log.now p.rider (with_rider c.in-Err.pass.rider p) (quiet g.row.F.Denot c.args.log.now p c.in-Err.pass.rider c.in-Err.ensures.left.0 m)))
