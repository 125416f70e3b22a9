use Rattle.std.proofs.Common.{rules, ◌≡◌, ◌∙◌, ap, inr, subst}
use Rattle.hl_domain.specs.Domains.{DomainState}
use Rattle.hl_traces.specs.Traces.{PassTraces}
use Rattle.hl.specs.Sessions.{SessionState}
use Rattle.hl.proofs.shared.Shared.flush_one.Goals as goal

-- it entered and ran, and its leave was refused
pub returns-in-Err-leave_by_tries : goal.returns-in-Err-leave_by_tries
returns-in-Err-leave_by_tries g c =
    let same : c.flush_log-out.new.self.log ≡ c.args.log.now = search rules in
    let back = c.in-Err-leave_by_tries.field-0.back in
    let at = ap (λ (s : SessionState). s.log) c.in-Err-leave_by_tries.ensures.back ∙ same in
    inr (
      c.flush_log-out.result,
      back,
      search rules,
      record {
        first = c.in-Ok.session;
        last = c.flush_log-out.new.self;
        entered = search rules;
        log_is = search rules;
        beside_is = search rules;
        ran = search rules;
        log_stays = same;
        met = search rules;
        came = c.in-Ok.ensures.did;
        went = c.in-Err-leave_by_tries.ensures.did;
        traces = subst (λ (l : DomainState). PassTraces l.sizes back.pass) at c.abandon.ensures.traces;
      },
    )
