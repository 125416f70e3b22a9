use Rattle.std.proofs.Common.{refl, sym, ap, ◌∙◌}
use Rattle.std.proofs.lemmas.Result.{err_from_is_err_and}
use Rattle.hl_keeper.specs.Passes.{PassRecord, rested}
use Rattle.hl_keeper.specs.Calls.{refresh_fault}
use Rattle.hl_keeper.specs.Parts.{pass_of}
use Rattle.hl_keeper.proofs.SlotLaws.{knows_behind, entered_is, refresh_fresh, rested_is}
use Rattle.hl_keeper.proofs.StepLaws.{fault_first, fault_second, refused_at, same_faults, refused_as, replied_as, reply_is}
use Rattle.hl_keeper.proofs.keeper.Keeper.refresh.Goals as goal

pub returns-in_err-known_behind-clause-made : goal.returns-in_err-known_behind-clause-made
unfolding refresh_fault
returns-in_err-known_behind-clause-made g c =
    let q = err_from_is_err_and c.from_residual.result c.from_residual.ensures.1 in
    rw (q.1, q.2) (λ A st. refused_at _ A _ _ c.in_err-known_behind.field-0.0 _ st (fault_first _ _ c.in_err-known_behind.field-0.0 (c.in_err-known_behind.ensures A st)))

pub call-requires-clause-known : goal.call-requires-clause-known
call-requires-clause-known g c = knows_behind c.args.self.now c.args.pass.now c.in_ok-known_behind.field-0 c.in_ok-known_behind.ensures

pub returns-in_err-epoch-clause-made : goal.returns-in_err-epoch-clause-made
unfolding refresh_fault
returns-in_err-epoch-clause-made g c =
    let q = err_from_is_err_and c.from_residual-in_err-epoch.result c.from_residual-in_err-epoch.ensures.1 in
    let made = rw (ap (λ (z : PassRecord). z.slot) c.pass.view_is) at c.in_err-epoch.ensures.made in
    rw (q.1, q.2) (λ A st. refused_as _ _ _ _ c.call.new.self c.in_err-epoch.field-0.0 (same_faults _ _ _ _ _ c.call.new.self _ (fault_second _ _ c.in_ok-known_behind.field-0 (c.in_ok-known_behind.ensures A st)) (made A st)))

pub unreachable-requires : goal.unreachable-requires
unreachable-requires g c =
    let h = c.in_ok-epoch.ensures in
    c.in_default.not-Entered _ _ (reply_is _ _ c.in_ok-epoch.field-0 _ c.call.new.self (h.made h.valid.0 h.valid.1))

pub returns-clause-made : goal.returns-clause-made
unfolding refresh_fault
returns-clause-made g c =
    let made = rw (ap (λ (z : PassRecord). z.slot) c.pass.view_is) at c.in_ok-epoch.ensures.made in
    λ A st. replied_as _ _ c.in_ok-epoch.field-0 _ c.call.new.self c.in-Entered.view _ (same_faults _ _ _ _ _ c.call.new.self _ (fault_second _ _ c.in_ok-known_behind.field-0 (c.in_ok-known_behind.ensures A st)) (made A st))
    (λ none e. (entered_is c.in_ok-epoch.field-0 c.in-Entered.epoch _ c.in-Entered.view _ e c.in-Entered.is).1)

pub returns-clause-pass : goal.returns-clause-pass
returns-clause-pass g c =
    rested_is c.args.pass.now c.call.new.pass c.rest.new.self c.in-Entered.epoch c.in-Entered.view c.in-Entered.view c.in_ok-epoch.ensures.pass c.rest.ensures refl
    ∙ ap (λ (z : PassRecord). rested z.epoch c.in-Entered.view c.args.pass.now) (sym c.rest.ensures)

pub returns-clause-epoch : goal.returns-clause-epoch
returns-clause-epoch g c =
    let made = rw (ap (λ (z : PassRecord). z.slot) c.pass.view_is) at c.in_ok-epoch.ensures.made in
    λ A st. ap (λ (z : PassRecord). z.epoch) c.rest.ensures
    ∙ (entered_is c.in_ok-epoch.field-0 c.in-Entered.epoch _ c.in-Entered.view _ (reply_is _ _ c.in_ok-epoch.field-0 _ c.call.new.self (made A st)) c.in-Entered.is).0

pub returns-clause-fresh : goal.returns-clause-fresh
returns-clause-fresh g c =
    let k = c.args.self.now in
    let A = c.in_ok-epoch.ensures.valid.0 in
    let st = c.in_ok-epoch.ensures.valid.1 in
    let p : PassRecord = (pass_of c.pass.inside.own c.pass.inside.touches c.pass.inside.rider) in
    let made = rw (sym c.pass.view_is) at c.in_ok-epoch.ensures.made in
    let known = rw (sym c.pass.view_is) at c.in_ok-known_behind.ensures in
    rw (sym c.pass.view_is) (refresh_fresh k A p c.in_ok-known_behind.field-0 c.in-Entered.view st (knows_behind k p c.in_ok-known_behind.field-0 known) c.pass.invariant.1 (known A st)
    (entered_is c.in_ok-epoch.field-0 c.in-Entered.epoch _ c.in-Entered.view _ (reply_is _ _ c.in_ok-epoch.field-0 _ c.call.new.self (made A st)) c.in-Entered.is).1)
