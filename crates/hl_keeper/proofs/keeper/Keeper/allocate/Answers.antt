use Rattle.std.proofs.Common.{sym, ap, ◌∙◌, arith, ◌+◌}
use Rattle.std.proofs.lemmas.Result.{err_from_is_err_and}
use Rattle.hl_keeper.specs.Passes.{PassRecord, seen, rested, with_tail}
use Rattle.hl_keeper.specs.Calls.{call_fault}
use Rattle.hl_keeper.specs.Parts.{pass_of}
use Rattle.hl_keeper.proofs.SlotLaws.{Placed, knows, placed_is, allocate_placed, rested_is}
use Rattle.hl_keeper.proofs.StepLaws.{fault_first, fault_second, refused_at, same_faults, refused_as, replied_as, reply_is}
use Rattle.hl_keeper.proofs.keeper.Keeper.allocate.Goals.{In-At}
use Rattle.hl_keeper.proofs.keeper.Keeper.allocate.Goals as goal

pub returns-in_err-known-clause-made : goal.returns-in_err-known-clause-made
unfolding call_fault
returns-in_err-known-clause-made g c =
    let q = err_from_is_err_and c.from_residual.result c.from_residual.ensures.1 in
    rw (q.1, q.2) (λ A st. refused_at _ A _ _ c.in_err-known.field-0.0 _ st (fault_first _ _ c.in_err-known.field-0.0 (c.in_err-known.ensures A st)))

pub call-requires-clause-known : goal.call-requires-clause-known
call-requires-clause-known g c = knows c.args.self.now c.args.pass.now c.in_ok-known.field-0 c.in_ok-known.ensures

pub returns-in_err-address-clause-made : goal.returns-in_err-address-clause-made
unfolding call_fault
returns-in_err-address-clause-made g c =
    let q = err_from_is_err_and c.from_residual-in_err-address.result c.from_residual-in_err-address.ensures.1 in
    let made = rw (ap (λ (z : PassRecord). z.slot) c.pass.view_is) at c.in_err-address.ensures.made in
    rw (q.1, q.2) (λ A st. refused_as _ _ _ _ c.call.new.self c.in_err-address.field-0.0 (same_faults _ _ _ _ _ c.call.new.self _ (fault_second _ _ c.in_ok-known.field-0 (c.in_ok-known.ensures A st)) (made A st)))

pub unreachable-requires : goal.unreachable-requires
unreachable-requires g c =
    let h = c.in_ok-address.ensures in
    c.in_default.not-At _ (reply_is _ _ c.in_ok-address.field-0 _ c.call.new.self (h.made h.valid.0 h.valid.1))

-- where the record is placed
placed : (g : _) (c : In-At g) → Placed c.args.self.now.core.sizes.page_size c.in-At.address c.args.n (seen c.args.pass.now)
placed g c =
    let k = c.args.self.now in
    let A = c.in_ok-address.ensures.valid.0 in
    let st = c.in_ok-address.ensures.valid.1 in
    let p : PassRecord = (pass_of c.pass.inside.own c.pass.inside.touches c.pass.inside.rider) in
    let made = rw (sym c.pass.view_is) at c.in_ok-address.ensures.made in
    let known = rw (sym c.pass.view_is) at c.in_ok-known.ensures in
    rw (sym c.pass.view_is) (allocate_placed k A p c.args.n c.call.new.self c.in_ok-address.field-0 c.in-At.address st (knows k p c.in_ok-known.field-0 known) c.pass.invariant.1 (made A st) c.in-At.is)

pub overflow_add-view : goal.overflow_add-view
overflow_add-view g c = omega (arith, (placed g c).most)

pub returns-clause-made : goal.returns-clause-made
unfolding call_fault
returns-clause-made g c =
    let made = rw (ap (λ (z : PassRecord). z.slot) c.pass.view_is) at c.in_ok-address.ensures.made in
    λ A st. replied_as _ _ c.in_ok-address.field-0 _ c.call.new.self c.in-At.address _ (same_faults _ _ _ _ _ c.call.new.self _ (fault_second _ _ c.in_ok-known.field-0 (c.in_ok-known.ensures A st)) (made A st))
    (λ none e. placed_is c.in_ok-address.field-0 c.in-At.address _ e c.in-At.is)

pub returns-clause-pass : goal.returns-clause-pass
returns-clause-pass g c =
    rested_is c.args.pass.now c.call.new.pass c.rest.new.self c.pass.inside.own.epoch (with_tail (c.in-At.address + c.args.n) c.pass.inside.own.view) (with_tail (c.in-At.address + c.args.n) (seen c.args.pass.now)) c.in_ok-address.ensures.pass c.rest.ensures
    (ap (with_tail (c.in-At.address + c.args.n)) (c.pass.invariant.0 ∙ ap seen c.pass.view_is))
    ∙ ap (λ (p : PassRecord). rested p.epoch (with_tail (c.in-At.address + c.args.n) (seen c.args.pass.now)) c.args.pass.now) c.pass.view_is

pub returns-clause-above : goal.returns-clause-above
returns-clause-above g c = (placed g c.before.before).above

pub returns-clause-one_page : goal.returns-clause-one_page
returns-clause-one_page g c = (placed g c.before.before).one_page

pub returns-clause-within : goal.returns-clause-within
returns-clause-within g c = (placed g c.before.before).most
