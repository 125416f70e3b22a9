use Rattle.std.proofs.Common.{◌≡◌, true, rules, Err, refl, sym, ap, ◌∙◌, subst}
use Rattle.std.proofs.lemmas.Result.{err_from_is_err_and}
use Rattle.hl_model.specs.declared.step.Step.{Step}
use Rattle.hl_core.specs.Steps.{Made}
use Rattle.hl_core.specs.Standing.{Stands}
use Rattle.hl_pass.specs.Calls.{is_call, looked}
use Rattle.hl_log.specs.Calls.{by_slot, Calls}
use Rattle.hl_log.specs.States.{LogState, PassState}
use Rattle.hl_log.proofs.StandLaws.{call_quiet, by_slot_call, makes_quiet, log_beside}
use Rattle.hl_log.proofs.CallLaws.{stranger_calls, known_calls}
use Rattle.hl_log.proofs.log.Log.call.Goals as goal

pub returns-in_err-begin : goal.returns-in_err-begin
returns-in_err-begin c =
    let q = err_from_is_err_and c.from_residual.result c.from_residual.ensures.1 in
    subst (λ (p : PassState). Calls c.args.self.now p (by_slot p.own.slot c.args.step.now) c.begin.new.self p c.from_residual.result) c.pass.view_is
    (stranger_calls c.args.self.now _ _ _ c.in_err-begin.field-0.0 c.from_residual.result c.in_err-begin.ensures.test (ap (λ (l : LogState). l.core) c.in_err-begin.ensures.refused) c.begin.ensures.beside (q.1 ∙ ap (λ f. Err f) q.2))

pub invariant_of-self : goal.invariant_of-self
invariant_of-self c =
    let quiet : is_call c.by_slot.result ≡ true = ap is_call c.by_slot.ensures.value ∙ by_slot_call c.pass.inside.own.slot c.args.step.now c.requires in
    log_beside _ _ c.by_slot.result _ c.self.invariant (makes_quiet _ _ c.by_slot.result _ (call_quiet c.by_slot.result quiet) c.act-reply.ensures.made refl) (record { shared = refl; master = refl; stamps = refl })

pub returns : goal.returns
returns c =
    let step : Step = by_slot c.pass.inside.own.slot c.args.step.now in
    let new : LogState = record { core = c.act-reply.new.self; stamps = c.self.inside.stamps; shared = c.self.inside.shared.value; master = c.self.inside.master } in
    let q : PassState = record { shared = c.pass.inside.shared.value; own = c.rest_in.new.self; rider = c.pass.inside.rider } in
    subst (λ (p : PassState). Calls c.args.self.now p (by_slot p.own.slot c.args.step.now) new q c.act-reply.result) c.pass.view_is
    (known_calls c.args.self.now new c.self.inside.core _ q step c.in_ok-begin.field-0 c.view.result c.epoch_told-epoch.result c.act-reply.result c.in_ok-begin.ensures.test (record {
      caught_up = λ A at. subst (λ (l : LogState). Stands (λ t. t.0) l.core (looked c.args.self.now.core.sizes A c.pass.inside.own)) (sym c.self.view_is) (c.in_ok-begin.ensures.standing A at).standing;
      sizes = ap (λ (l : LogState). l.core.sizes) c.self.view_is ∙ c.begin.ensures.sizes;
      made = subst (λ (s : Step). Made (λ t. t.0) c.self.inside.core s c.act-reply.new.self c.act-reply.result) c.by_slot.ensures.value c.act-reply.ensures.made;
      epoch_is = c.epoch_told-epoch.ensures;
      pass = search rules;
      beside = record {
        shared = ap (λ (l : LogState). l.shared) c.self.view_is ∙ c.begin.ensures.beside.shared;
        master = ap (λ (l : LogState). l.master) c.self.view_is ∙ c.begin.ensures.beside.master;
        stamps = ap (λ (l : LogState). l.stamps) c.self.view_is ∙ c.begin.ensures.beside.stamps;
      };
      quiet = by_slot_call c.pass.inside.own.slot c.args.step.now c.requires;
    }) c.view.ensures.value)
