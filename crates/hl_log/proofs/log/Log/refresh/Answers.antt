use Rattle.std.proofs.Common.{List, rules, Ok, Err, refl, sym, ap, ◌∙◌, subst}
use Rattle.std.proofs.lemmas.Result.{err_from_is_err_and}
use Rattle.hl_model.specs.declared.step.Step.{Step}
use Rattle.hl_model.specs.declared.step.Step.TheVariants.{Refresh}
use Rattle.hl_core.specs.Steps.{as_reply, entered_reply}
use Rattle.hl_core.specs.Standing.{Stands}
use Rattle.hl_pass.specs.Calls.{looked}
use Rattle.hl_log.specs.Calls.{Calls}
use Rattle.hl_log.specs.Logs.{StandsAt}
use Rattle.hl_log.specs.Passes.{with_own}
use Rattle.hl_log.specs.States.{LogState, PassState}
use Rattle.hl_log.proofs.StandLaws.{makes_quiet, log_beside}
use Rattle.hl_log.proofs.CallLaws.{stranger_calls, known_calls, refresh_calls}
use Rattle.hl_log.proofs.log.Log.refresh.Goals as goal
use Rattle.hl_log.proofs.log.Log.refresh.Goals.{in-Ok, in-Err}

pub returns-in_err-begin : goal.returns-in_err-begin
returns-in_err-begin c =
    let q = err_from_is_err_and c.from_residual.result c.from_residual.ensures.1 in
    subst (λ (p : PassState). Calls c.args.self.now p (Refresh p.own.slot) c.begin.new.self p (as_reply entered_reply c.from_residual.result)) c.pass.view_is
    (stranger_calls c.args.self.now _ _ _ c.in_err-begin.field-0.0 _ c.in_err-begin.ensures.test (ap (λ (l : LogState). l.core) c.in_err-begin.ensures.refused) c.begin.ensures.beside (ap (as_reply entered_reply) (q.1 ∙ ap (λ f. Err f) q.2)))

pub invariant_of-self : goal.invariant_of-self
invariant_of-self c =
    let s = Refresh c.pass.inside.own.slot in
    log_beside _ _ s _ c.self.invariant (makes_quiet _ _ s _ (record { raises = refl; shifts = refl; bumps = refl; ends = refl }) c.refresh.ensures.made refl) (record { shared = refl; master = refl; stamps = refl })

pub returns : goal.returns
returns c =
    let new : LogState = record { core = c.refresh.new.self; stamps = c.self.inside.stamps; shared = c.self.inside.shared.value; master = c.self.inside.master } in
    let caught : (A : List Step) → StandsAt c.args.self.now A → Stands (λ t. t.0) c.self.inside.core (looked c.args.self.now.core.sizes A c.pass.inside.own) = λ A at. subst (λ (l : LogState). Stands (λ t. t.0) l.core (looked c.args.self.now.core.sizes A c.pass.inside.own)) (sym c.self.view_is) (c.in_ok-begin.ensures.standing A at).standing in
    elim c.match-refresh.branch [
      | in-Ok w ↦ rw (w.pass-is, w.result-is) (subst (λ (p : PassState). Calls c.args.self.now p (Refresh p.own.slot) new (with_own w.rest.new.self (record { shared = c.pass.inside.shared.value; own = c.pass.inside.own; rider = c.pass.inside.rider })) (Ok (entered_reply w.in-Ok.slot))) c.pass.view_is
          (refresh_calls c.args.self.now new c.self.inside.core _ _ c.in_ok-begin.field-0 w.in-Ok.slot c.in_ok-begin.ensures.test (record {
            caught_up = caught;
            sizes = ap (λ (l : LogState). l.core.sizes) c.self.view_is ∙ c.begin.ensures.sizes;
            made = w.in-Ok.ensures.made;
            epoch_is = refl;
            pass = search rules;
            beside = record {
              shared = ap (λ (l : LogState). l.shared) c.self.view_is ∙ c.begin.ensures.beside.shared;
              master = ap (λ (l : LogState). l.master) c.self.view_is ∙ c.begin.ensures.beside.master;
              stamps = ap (λ (l : LogState). l.stamps) c.self.view_is ∙ c.begin.ensures.beside.stamps;
            };
            quiet = refl;
          })))
      | in-Err w ↦ rw (w.pass-is, w.result-is) (subst (λ (p : PassState). Calls c.args.self.now p (Refresh p.own.slot) new (with_own w.rest_in.new.self (record { shared = c.pass.inside.shared.value; own = c.pass.inside.own; rider = c.pass.inside.rider })) (Err w.in-Err.fault)) c.pass.view_is
          (known_calls c.args.self.now new c.self.inside.core _ _ _ c.in_ok-begin.field-0 w.view.result _ (Err w.in-Err.fault) c.in_ok-begin.ensures.test (record {
            caught_up = caught;
            sizes = ap (λ (l : LogState). l.core.sizes) c.self.view_is ∙ c.begin.ensures.sizes;
            made = w.in-Err.ensures.made;
            epoch_is = refl;
            pass = search rules;
            beside = record {
              shared = ap (λ (l : LogState). l.shared) c.self.view_is ∙ c.begin.ensures.beside.shared;
              master = ap (λ (l : LogState). l.master) c.self.view_is ∙ c.begin.ensures.beside.master;
              stamps = ap (λ (l : LogState). l.stamps) c.self.view_is ∙ c.begin.ensures.beside.stamps;
            };
            quiet = refl;
          }) w.view.ensures.value))
    ]
