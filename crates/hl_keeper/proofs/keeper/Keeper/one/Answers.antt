use Rattle.std.proofs.Common.{sym, ap, ◌∙◌, refl}
use Rattle.std.proofs.lemmas.Result.{err_from_is_err_and}
use Rattle.hl_words.specs.States.{MasterState}
use Rattle.hl_keeper.specs.Parts.{keeper_of}
use Rattle.hl_keeper.proofs.StepLaws.{HasMade, one_more, full_refused, core_refused, has_room, one_enters, told_rises, was_made, kept_made, has_made}
use Rattle.hl_keeper.proofs.keeper.Keeper.one.Goals.{After-note}
use Rattle.hl_keeper.proofs.keeper.Keeper.one.Goals as goal

pub returns-in_err-room-clause-made : goal.returns-in_err-room-clause-made
returns-in_err-room-clause-made g c =
    let q = err_from_is_err_and c.from_residual.result c.from_residual.ensures.1 in
    rw (q.1, q.2) (full_refused c.args.self.now c.args.step.now c.in_err-room.field-0.0 _ c.in_err-room.ensures)

pub returns-in_err-reply-clause-made : goal.returns-in_err-reply-clause-made
returns-in_err-reply-clause-made g c =
    let q = err_from_is_err_and c.from_residual-in_err-reply.result c.from_residual-in_err-reply.ensures.1 in
    rw (q.1, q.2, c.in_err-reply.ensures.refused, sym c.self.view_is) (core_refused _ c.args.step.now c.act.new.self c.in_err-reply.field-0.0 _ (has_room c.args.self.now _ c.in_ok-room.field-0 c.self.view_is c.in_ok-room.ensures) c.in_err-reply.ensures.made)

pub store_told-requires : goal.store_told-requires
store_told-requires g c = told_rises (keeper_of c.self.inside.core c.self.inside.journal c.self.inside.stamps c.self.inside.master) c.args.step.now c.act.new.self c.in_ok-reply.reply c.self.invariant.of.standing c.in_ok-reply.ensures.made

pub note-requires : goal.note-requires
note-requires g c = one_enters _ c.store_told.new.master c.self.invariant.of.standing (has_room c.args.self.now _ c.in_ok-room.field-0 c.self.view_is c.in_ok-room.ensures) (ap (λ (m : MasterState). m.total) c.store_told.ensures)

making : (g : _) (c : After-note g) → HasMade (keeper_of c.self.inside.core c.self.inside.journal c.self.inside.stamps c.self.inside.master) c.args.step.now c.in_ok-reply.reply (keeper_of c.act.new.self c.note.new.journal c.self.inside.stamps c.note.new.master)
making g c = was_made _ c.args.step.now c.in_ok-reply.reply _ (has_room c.args.self.now _ c.in_ok-room.field-0 c.self.view_is c.in_ok-room.ensures) c.in_ok-reply.ensures.made c.in_ok-reply.ensures.sizes c.note.ensures.journal c.requires.unstamped (refl, refl) refl (c.note.ensures.master ∙ ap one_more c.store_told.ensures)

pub invariant_of-self-2 : goal.invariant_of-self-2
invariant_of-self-2 g c = kept_made _ _ _ _ (making g c) _ _ _ _ c.self.invariant refl

pub returns-clause-made : goal.returns-clause-made
returns-clause-made g c = rw (sym c.self.view_is) (has_made _ _ _ _ (making g c) c.in_ok-reply.reply _ (λ A st e. e))
