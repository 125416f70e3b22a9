use Rattle.std.proofs.Common.{refl, sym, ap, ◌∙◌, arith, length, ◌∷◌, []}
use Rattle.std.proofs.lemmas.Result.{err_from_is_err_and}
use Rattle.hl_words.specs.States.{MasterState}
use Rattle.hl_keeper.specs.Passes.{PassRecord}
use Rattle.hl_keeper.specs.Journals.{with_steps}
use Rattle.hl_keeper.specs.Parts.{keeper_of, pass_of}
use Rattle.hl_keeper.proofs.StepLaws.{HasMade}
use Rattle.hl_keeper.proofs.TouchedLaws.{HasEntered, behind, may_call, has_entered, called_full, called_faulty, made_behind, kept_behind, called_made, touches_fit, step_fits_behind, counts, never_refused}
use Rattle.hl_keeper.proofs.keeper.Keeper.call_touched.Goals.{After-act, After-enter}
use Rattle.hl_keeper.proofs.keeper.Keeper.call_touched.Goals as goal

pub returns-in_err-room-clause-made : goal.returns-in_err-room-clause-made
returns-in_err-room-clause-made g c =
    let p = err_from_is_err_and c.from_residual.result c.from_residual.ensures.1 in
    rw (p.1, p.2) (λ A st. called_full c.args.self.now c.args.pass.now c.args.step.now c.len-touches.result c.in_err-room.field-0.0 (c.len-touches.ensures.value ∙ ap (λ (q : PassRecord). length q.touches) c.pass.view_is) c.in_err-room.ensures A st)

pub returns-in_err-check-clause-made : goal.returns-in_err-check-clause-made
returns-in_err-check-clause-made g c =
    let may = may_call c.args.self.now _ c.args.pass.now _ c.args.step.now c.len-touches.result c.in_ok-room.field-0 c.self.view_is c.pass.view_is c.self.invariant.of.standing c.requires.known c.requires.kind c.pass.invariant.1 c.len-touches.ensures.value c.in_ok-room.ensures in
    let q = err_from_is_err_and c.from_residual-in_err-check.result c.from_residual-in_err-check.ensures.1 in
    rw (q.1, q.2, sym c.self.view_is, sym c.pass.view_is) (called_faulty _ _ c.args.step.now c.in_err-check.field-0.0 may c.in_err-check.ensures)

-- what is known once the core caught up
entered : (g : _) (c : After-act g) → HasEntered (keeper_of c.self.inside.core c.self.inside.journal c.self.inside.stamps c.self.inside.master) (pass_of c.pass.inside.own c.pass.inside.touches c.pass.inside.rider) c.args.step.now c.catch_up.new.core
entered g c =
    let i = c.self.inside in
    let p = c.pass.inside in
    has_entered i.core c.catch_up.new.core i.journal i.stamps i.master p.own p.touches p.rider c.args.step.now c.in_ok-check.field-0
    (may_call c.args.self.now _ c.args.pass.now _ c.args.step.now c.len-touches.result c.in_ok-room.field-0 c.self.view_is c.pass.view_is c.self.invariant.of.standing c.requires.known c.requires.kind c.pass.invariant.1 c.len-touches.ensures.value c.in_ok-room.ensures)
    c.pass.invariant.0 c.in_ok-check.ensures c.catch_up.ensures.sizes c.catch_up.ensures.standing

pub note_all-requires : goal.note_all-requires
note_all-requires g c =
    rw c.as_slice.ensures (touches_fit _ _ c.args.step.now (may_call c.args.self.now _ c.args.pass.now _ c.args.step.now c.len-touches.result c.in_ok-room.field-0 c.self.view_is c.pass.view_is c.self.invariant.of.standing c.requires.known c.requires.kind c.pass.invariant.1 c.len-touches.ensures.value c.in_ok-room.ensures))

pub note-requires : goal.note-requires
note-requires g c = let d = c.before.before.before in rw (c.note_all.ensures, c.as_slice.ensures) (step_fits_behind _ _ c.args.step.now (entered g d).may)

pub enter-requires : goal.enter-requires
enter-requires g c =
    let act = c.before.before.before.before.before.before in
    omega (arith, c.len-touches.ensures.value, counts _ _ c.args.step.now (entered g act).may)

pub unreachable-requires : goal.unreachable-requires
unreachable-requires g c = never_refused _ _ c.args.step.now c.catch_up.new.core c.act.new.self c.in-Err.field-0 (entered g c.before) c.in-Err.ensures.made

-- what was made then
making : (g : _) (c : After-enter g) → HasMade (behind (keeper_of c.self.inside.core c.self.inside.journal c.self.inside.stamps c.self.inside.master) (pass_of c.pass.inside.own c.pass.inside.touches c.pass.inside.rider) c.catch_up.new.core) c.args.step.now c.in-Ok.reply (keeper_of c.act.new.self c.note.new.self c.self.inside.stamps c.enter.new.self)
making g c =
    let act = c.before.before.before.before.before.before.before in
    made_behind _ _ c.args.step.now c.catch_up.new.core (entered g act) _ c.in-Ok.reply c.len-touches.result c.in-Ok.ensures.made c.in-Ok.ensures.sizes c.len-touches.ensures.value
    (c.note.ensures ∙ ap (with_steps (c.args.step.now ∷ [])) (c.note_all.ensures ∙ ap (λ z. with_steps z c.self.inside.journal) c.as_slice.ensures))
    (refl, refl) refl (ap (λ (m : MasterState). m.offsets) c.enter.ensures.total) (ap (λ (m : MasterState). m.total) c.enter.ensures.total)

pub invariant_of-self : goal.invariant_of-self
invariant_of-self g c =
    let act = c.before.before.before.before.before.before.before in
    kept_behind _ _ c.args.step.now c.catch_up.new.core (entered g act) _ c.in-Ok.reply (making g c) _ _ _ c.self.invariant

pub returns-clause-made : goal.returns-clause-made
returns-clause-made g c =
    let act = c.before.before.before.before.before.before.before in
    rw (sym c.self.view_is, sym c.pass.view_is) (called_made _ _ c.args.step.now c.catch_up.new.core (entered g act) _ c.in-Ok.reply (making g c))
