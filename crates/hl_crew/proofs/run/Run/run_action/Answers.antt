use Rattle.std.proofs.Common.{rules, inl, inr}
use Rattle.std.proofs.lemmas.Result.{err_from_is_err_and}
use Rattle.hl_crew.proofs.TryLaws.{none_is_ready}
use Rattle.hl_crew.proofs.Steps.{leaves}
use Rattle.hl_crew.proofs.run.Run.run_action.Goals as goal

pub returns-in_err-end_by-in-Ok : goal.returns-in_err-end_by-in-Ok
returns-in_err-end_by-in-Ok g c =
    let p = err_from_is_err_and c.from_residual.result c.from_residual.ensures.1 in
    rw (p.1, p.2) (inr (
      c.in-Ok.ready,
      c.take.new.rider,
      leaves (λ before after h. (h.0, h.1)) c.in-Ok.ensures.met,
      rw (c.run.ensures.origin, c.run.ensures.ticket) at c.in_err-end_by-in-Ok.ensures,
    ))

pub returns-in_ok-end_by-in-Ok : goal.returns-in_ok-end_by-in-Ok
returns-in_ok-end_by-in-Ok g c = record {
  ready = c.in-Ok.ready;
  mid = c.take.new.rider;
  taken = leaves (λ before after h. (h.0, h.1)) c.in-Ok.ensures.met;
  done = rw (c.run.ensures.origin, c.run.ensures.ticket) at c.in_ok-end_by-in-Ok.ensures;
}

pub returns-in-Empty : goal.returns-in-Empty
returns-in-Empty g c = (c.in-Err.fault, none_is_ready c.in-Err.fault c.in-Empty.is, leaves (λ before after h. (h.0, h.1)) c.in-Err.ensures.met)

pub returns-in_default : goal.returns-in_default
returns-in_default g c = inl (c.in-Err.fault, search rules, c.of.ensures, leaves (λ before after h. (h.0, h.1)) c.in-Err.ensures.met)
