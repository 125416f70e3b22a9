use Rattle.std.proofs.Common.{refl, sym, ap, ◌∙◌}
use Rattle.hl_model.specs.declared.step.Step.TheVariants.{Acquire as ACQUIRE}
use Rattle.hl_words.specs.States.{MasterState}
use Rattle.hl_core.specs.Steps.{entered_reply}
use Rattle.hl_keeper.specs.Passes.{new_pass}
use Rattle.hl_keeper.specs.Parts.{keeper_of}
use Rattle.hl_keeper.proofs.AcquireLaws.{stamp_given, row_given, acquire_stamped, acquire_pass}
use Rattle.hl_keeper.proofs.StepLaws.{HasMade, full_refused, core_refused, has_room, one_enters, kept_made, has_made}
use Rattle.hl_keeper.proofs.keeper.Keeper.acquire.Goals.{After-new}
use Rattle.hl_keeper.proofs.keeper.Keeper.acquire.Goals as goal

pub returns-in-Err-clause-made : goal.returns-in-Err-clause-made
returns-in-Err-clause-made g c = full_refused c.args.self.now (ACQUIRE c.args.t) c.in-Err.fault _ c.in-Err.ensures

pub returns-in-Err-acquire-clause-made : goal.returns-in-Err-acquire-clause-made
returns-in-Err-acquire-clause-made g c =
    rw (c.in-Err-acquire.ensures.refused, sym c.self.view_is) (core_refused _ (ACQUIRE c.args.t) c.acquire.new.self c.in-Err-acquire.fault _ (has_room c.args.self.now _ c.in_default.field-0 c.self.view_is c.in_default.ensures) c.in-Err-acquire.ensures.made)

pub note-requires : goal.note-requires
note-requires g c = one_enters _ c.self.inside.master c.self.invariant.of.standing (has_room c.args.self.now _ c.in_default.field-0 c.self.view_is c.in_default.ensures) refl

making : (g : _) (c : After-new g) → HasMade (keeper_of c.self.inside.core c.self.inside.journal c.self.inside.stamps c.self.inside.master) (ACQUIRE c.args.t) (entered_reply c.in-Ok.slot) (keeper_of c.acquire.new.self c.note.new.journal c.give-stamp.new.self c.note.new.master)
making g c =
    let i = c.self.inside in record {
      room = has_room c.args.self.now _ c.in_default.field-0 c.self.view_is c.in_default.ensures;
      core = c.in-Ok.ensures.made;
      sizes = c.in-Ok.ensures.sizes;
      noted = c.note.ensures.journal;
      own = c.give-stamp.ensures.given.own;
      stamped = λ A st. acquire_stamped i.core i.journal i.stamps i.master A c.args.t st _ c.give-stamp.new.self c.give-stamp.ensures.given refl refl refl c.in-Ok.ensures.sizes;
      stores = ap (λ (m : MasterState). m.offsets) c.note.ensures.master;
      total = ap (λ (m : MasterState). m.total) c.note.ensures.master;
    }

pub invariant_of-self : goal.invariant_of-self
invariant_of-self g c = kept_made _ _ _ _ (making g c) _ _ _ _ c.self.invariant c.give-stamp.ensures.given.room

pub returns-in-Ok-clause-made : goal.returns-in-Ok-clause-made
returns-in-Ok-clause-made g c =
    let i = c.self.inside in
    rw (sym c.self.view_is) (has_made _ _ _ _ (making g c) c.new.result _ (λ A st e. acquire_pass i.core i.journal i.stamps i.master A c.args.t st c.in-Ok.slot c.args.rider c.note.new.rider c.new.result e c.note.ensures.rider
    (c.new.ensures ∙ ap (λ n. new_pass c.args.t n c.in-Ok.slot c.note.new.rider) c.give-stamp.ensures.stamp)))

pub returns-in-Ok-clause-acquired : goal.returns-in-Ok-clause-acquired
returns-in-Ok-clause-acquired g c =
    let i = c.self.inside in
    rw (sym c.self.view_is) (c.give-stamp.ensures.given.given ∙ (stamp_given i.core i.journal i.stamps i.master c.self.invariant.of.standing.0 c.args.t c.self.invariant.of.standing.1).0)

pub returns-in-Ok-clause-stamps : goal.returns-in-Ok-clause-stamps
returns-in-Ok-clause-stamps g c =
    let i = c.self.inside in
    rw (sym c.self.view_is) (row_given i.core i.journal i.stamps i.master c.self.invariant.of.standing.0 c.args.t c.self.invariant.of.standing.1 c.give-stamp.new.self.row.items c.give-stamp.ensures.given.row)
