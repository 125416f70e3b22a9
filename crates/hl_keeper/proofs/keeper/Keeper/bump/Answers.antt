use Rattle.std.proofs.Common.{refl, sym, ap, ◌∙◌, ◌∷◌, []}
use Rattle.hl_words.specs.States.{MasterState}
use Rattle.hl_model.specs.declared.step.Reply.TheVariants.{Ticket}
use Rattle.hl_core.specs.Steps.{asking}
use Rattle.hl_keeper.specs.Journals.{with_steps}
use Rattle.hl_keeper.specs.Keepers.{job_tag}
use Rattle.hl_keeper.specs.Parts.{keeper_of}
use Rattle.hl_keeper.proofs.ActionLaws.{asking_acquires, bump_ticket}
use Rattle.hl_keeper.proofs.StepLaws.{HasMade, one_more, full_refused, core_refused, has_room, one_enters, told_rises, was_made, kept_made, has_made}
use Rattle.hl_keeper.proofs.keeper.Keeper.bump.Goals.{After-note}
use Rattle.hl_keeper.proofs.keeper.Keeper.bump.Goals as goal

pub returns-in-Err-clause-made : goal.returns-in-Err-clause-made
returns-in-Err-clause-made g c = full_refused c.args.self.now (asking job_tag c.args.ask) c.in-Err.fault _ c.in-Err.ensures

pub returns-in-Err-bump-clause-made : goal.returns-in-Err-bump-clause-made
returns-in-Err-bump-clause-made g c =
    rw (c.in-Err-bump.ensures.refused.1, sym c.self.view_is) (core_refused _ (asking job_tag c.args.ask) c.bump.new.self c.in-Err-bump.refused.0 _ (has_room c.args.self.now _ c.in_default.field-0 c.self.view_is c.in_default.ensures) c.in-Err-bump.ensures.made)

pub note-requires : goal.note-requires
note-requires g c = one_enters _ c.store_offset.new.master c.self.invariant.of.standing (has_room c.args.self.now _ c.in_default.field-0 c.self.view_is c.in_default.ensures) (ap (λ (m : MasterState). m.total) c.store_offset.ensures)

pub store_offset-requires : goal.store_offset-requires
store_offset-requires g c =
    (told_rises (keeper_of c.self.inside.core c.self.inside.journal c.self.inside.stamps c.self.inside.master) (asking job_tag c.args.ask) c.bump.new.self (Ticket c.in-Ok.ticket) c.self.invariant.of.standing c.in-Ok.ensures.made).ended

making : (g : _) (c : After-note g) → HasMade (keeper_of c.self.inside.core c.self.inside.journal c.self.inside.stamps c.self.inside.master) (asking job_tag c.args.ask) (Ticket c.in-Ok.ticket) (keeper_of c.bump.new.self c.note.new.journal c.self.inside.stamps c.note.new.master)
making g c =
    was_made _ (asking job_tag c.args.ask) (Ticket c.in-Ok.ticket) _ (has_room c.args.self.now _ c.in_default.field-0 c.self.view_is c.in_default.ensures) c.in-Ok.ensures.made c.in-Ok.ensures.sizes
    (c.note.ensures.journal ∙ ap (λ z. with_steps (z ∷ []) c.self.inside.journal) c.step_of-step.ensures) (asking_acquires job_tag c.args.ask) (refl, refl) refl (c.note.ensures.master ∙ ap one_more c.store_offset.ensures)

pub invariant_of-self : goal.invariant_of-self
invariant_of-self g c = kept_made _ _ _ _ (making g c) _ _ _ _ c.self.invariant refl

pub returns-in-Ok-clause-made : goal.returns-in-Ok-clause-made
returns-in-Ok-clause-made g c = rw (sym c.self.view_is) (has_made _ _ _ _ (making g c) c.in-Ok.ticket _ (λ A st e. bump_ticket job_tag c.args.ask _ A _ c.in-Ok.ticket e))
