use Rattle.std.proofs.Common.{ℕ, refl, sym, ap, ◌∙◌}
use Rattle.std.proofs.lemmas.Result.{err_from_is_err_and}
use Rattle.hl_action.specs.Jobs.{ReadyRecord}
use Rattle.hl_model.specs.declared.step.Step.TheVariants.{Take as TAKE}
use Rattle.hl_model.specs.declared.step.Reply.TheVariants.{Taken}
use Rattle.hl_keeper.specs.Parts.{keeper_of}
use Rattle.hl_keeper.proofs.ActionLaws.{take_firing}
use Rattle.hl_keeper.proofs.StepLaws.{HasMade, full_refused, core_refused, has_room, one_enters, was_made, kept_made, has_made}
use Rattle.hl_keeper.proofs.keeper.Keeper.take.Goals.{After-of}
use Rattle.hl_keeper.proofs.keeper.Keeper.take.Goals as goal

pub returns-in_err-room-clause-made : goal.returns-in_err-room-clause-made
returns-in_err-room-clause-made g c =
    let q = err_from_is_err_and c.from_residual.result c.from_residual.ensures.1 in
    rw (q.1, q.2) (full_refused c.args.self.now TAKE c.in_err-room.field-0.0 _ c.in_err-room.ensures)

pub returns-in_err-firing-clause-made : goal.returns-in_err-firing-clause-made
returns-in_err-firing-clause-made g c =
    let q = err_from_is_err_and c.from_residual-in_err-firing.result c.from_residual-in_err-firing.ensures.1 in
    rw (q.1, q.2, c.in_err-firing.ensures.refused, sym c.self.view_is) (core_refused _ TAKE c.take.new.self c.in_err-firing.field-0.0 _ (has_room c.args.self.now _ c.in_ok-room.field-0 c.self.view_is c.in_ok-room.ensures) c.in_err-firing.ensures.made)

pub note-requires : goal.note-requires
note-requires g c = one_enters _ c.self.inside.master c.self.invariant.of.standing (has_room c.args.self.now _ c.in_ok-room.field-0 c.self.view_is c.in_ok-room.ensures) refl

making : (g : _) (c : After-of g) → HasMade (keeper_of c.self.inside.core c.self.inside.journal c.self.inside.stamps c.self.inside.master) TAKE (Taken c.in_ok-firing.firing.ticket) (keeper_of c.take.new.self c.note.new.journal c.self.inside.stamps c.note.new.master)
making g c = was_made _ TAKE (Taken c.in_ok-firing.firing.ticket) _ (has_room c.args.self.now _ c.in_ok-room.field-0 c.self.view_is c.in_ok-room.ensures) c.in_ok-firing.ensures.made c.in_ok-firing.ensures.sizes c.note.ensures.journal refl (refl, refl) refl c.note.ensures.master

pub invariant_of-self-2 : goal.invariant_of-self-2
invariant_of-self-2 g c = kept_made _ _ _ _ (making g c) _ _ _ _ c.self.invariant refl

pub returns-clause-made : goal.returns-clause-made
returns-clause-made g c =
    let ready = c.of.ensures ∙ ap (λ (origin : ℕ). let r : ReadyRecord g.row.F.Denot = record { origin = origin; firing = c.in_ok-firing.firing; kept = c.in_ok-firing.kept } in r) c.own.ensures in
    rw (sym c.self.view_is) (has_made _ _ _ _ (making g c) (record { origin = c.of.result.origin; firing = c.of.result.firing }) _ (λ A st e. take_firing _ A c.in_ok-firing.firing c.of.result c.in_ok-firing.kept st e c.in_ok-firing.ensures.safe ready))
