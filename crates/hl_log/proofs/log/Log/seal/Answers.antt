use Rattle.std.proofs.Common.{◌≡◌, ℕ, List, rules, Err, sym, ap, ◌∙◌, subst}
use Rattle.std.specs.Prelude.{Option}
use Rattle.std.proofs.lemmas.Result.{err_from_is_err_and}
use Rattle.hl_model.specs.declared.step.Step.{Step}
use Rattle.hl_model.specs.declared.view.View.{View}
use Rattle.hl_model.specs.Views.{slot_view}
use Rattle.hl_core.specs.Standing.{Stands}
use Rattle.hl_log.specs.Logs.{StandsAt}
use Rattle.hl_log.specs.Seals.{Seals}
use Rattle.hl_log.specs.States.{LogState, PassState}
use Rattle.hl_log.proofs.PassSeals.{stranger_seals, known_seals}
use Rattle.hl_log.proofs.log.Log.seal.Goals as goal

-- the view is the slot's
seen_at : (view new : LogState) (slot : ℕ) (seen : Option View) → view ≡ new → ((B : List Step) → Stands (λ t. t.0) view.core B → seen ≡ slot_view view.core.sizes slot B) → (B : List Step) → StandsAt new B → seen ≡ slot_view new.core.sizes slot B
seen_at view new slot seen is told B at =
    told B (subst (λ (l : LogState). Stands (λ t. t.0) l.core B) (sym is) at.standing) ∙ ap (λ (l : LogState). slot_view l.core.sizes slot B) is

pub returns-in_err-begin : goal.returns-in_err-begin
returns-in_err-begin c =
    let q = err_from_is_err_and c.from_residual.result c.from_residual.ensures.1 in
    subst (λ (p : PassState). Seals c.args.self.now p c.begin.new.self p c.from_residual.result) c.pass.view_is
    (stranger_seals c.args.self.now _ _ c.in_err-begin.field-0.0 c.from_residual.result c.in_err-begin.ensures.test c.in_err-begin.ensures.refused (q.1 ∙ ap (λ f. Err f) q.2))

pub returns : goal.returns
returns c =
    let q : PassState = record { shared = c.pass.inside.shared.value; own = c.rest_in.new.self; rider = c.pass.inside.rider } in
    subst (λ (p : PassState). Seals c.args.self.now p c.seal_for-sealed.new.self q c.seal_for-sealed.result) c.pass.view_is
    (known_seals c.args.self.now c.begin.new.self c.seal_for-sealed.new.self _ q c.in_ok-begin.field-0 c.view.result c.seal_for-sealed.result c.in_ok-begin.ensures.test (record {
      caught_up = c.in_ok-begin.ensures.standing;
      sizes = c.begin.ensures.sizes;
      brought = c.begin.ensures.beside;
      sealed = c.seal_for-sealed.ensures.made;
      beside = c.seal_for-sealed.ensures.beside;
      seen = seen_at _ c.seal_for-sealed.new.self c.pass.inside.own.slot c.view.result c.self.view_is c.view.ensures.value;
      pass = search rules;
    }))
