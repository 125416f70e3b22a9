use Rattle.std.proofs.Common.{◌≡◌, List, set, rules, refl, ap, ap₂, sym, subst, ◌∙◌}
use Rattle.hl_model.specs.declared.step.Step.{Step}
use Rattle.hl_model.specs.declared.step.Step.TheVariants.{Acquire}
use Rattle.hl_model.specs.Replies.{extended}
use Rattle.hl_core.specs.Standing.{Stands}
use Rattle.hl_pass.specs.declared.pass_view.PassView.{PassView}
use Rattle.hl_log.specs.States.{LogState, PassState}
use Rattle.hl_log.proofs.KnownLaws.{acquired_known}
use Rattle.hl_log.proofs.StandLaws.{makes_quiet, makes_at, log_after}
use Rattle.hl_log.proofs.log.Log.acquire.Goals as goal

pub invariant_of-self-2 : goal.invariant_of-self-2
invariant_of-self-2 c =
    let t = c.pass.inside.own.slot in
    log_after _ _ (Acquire t) _ c.self.invariant (makes_quiet _ _ (Acquire t) _ (record { raises = refl; shifts = refl; bumps = refl; ends = refl }) c.in_ok-reply.ensures.made refl) (search rules) refl refl

pub returns-clause-made : goal.returns-clause-made
returns-clause-made c =
    let t = c.pass.inside.own.slot in
    makes_at _ _ _ (Acquire t) _ _ _ c.self.view_is (ap (λ p. Acquire p.own.slot) c.pass.view_is) refl (makes_quiet _ _ (Acquire t) _ (record { raises = refl; shifts = refl; bumps = refl; ends = refl }) c.in_ok-reply.ensures.made refl)

pub returns-clause-known : goal.returns-clause-known
returns-clause-known c = λ A at some.
    let old : LogState = record { core = c.self.inside.core; stamps = c.self.inside.stamps; shared = c.self.inside.shared.value; master = c.self.inside.master } in
    let standing : Stands (λ t. t.0) c.self.inside.core A = subst (λ (l : LogState). Stands (λ t. t.0) l.core A) (sym c.self.view_is) at.standing in
    let stepped = c.in_ok-reply.ensures.made A standing in
    let list : extended c.self.inside.core.sizes A (Acquire c.pass.inside.own.slot) ≡ extended c.args.self.now.core.sizes A (Acquire c.args.pass.now.own.slot)
    = ap₂ (λ (l : LogState) (p : PassState). extended l.core.sizes A (Acquire p.own.slot)) c.self.view_is c.pass.view_is in
    let own : PassView = record { slot = c.pass.inside.own.slot; stamp = c.give-pass-inside.result; epoch = c.pass.inside.own.epoch; held = c.pass.inside.own.held; view = c.pass.inside.own.view } in
    let given = c.give-pass-inside.ensures in
    acquired_known old A c.act.new.self _ own c.give-pass-inside.new.self.row.items c.view.result c.epoch_told-epoch.result c.in_ok-reply.reply c.rest_in.new.self stepped.reply c.self.invariant.room
    (given.given.row ∙ ap (set c.self.inside.stamps.row.items c.pass.inside.own.slot) (sym given.stamp)) (c.view.ensures.value _ (subst (λ (B : List Step). Stands (λ t. t.0) c.act.new.self B) list stepped.standing)) c.rest_in.ensures some
