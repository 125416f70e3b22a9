use Rattle.std.proofs.Common.{ap, ◌∙◌}
use Rattle.hl_keeper.specs.Passes.{PassRecord}
use Rattle.hl_keeper.specs.Calls.{call_fault}
use Rattle.hl_keeper.proofs.SlotLaws.{knows}
use Rattle.hl_keeper.proofs.StepLaws.{fault_first, fault_second, refused_at, same_faults, refused_as, replied_as}
use Rattle.hl_keeper.proofs.keeper.Keeper.release.Goals as goal

pub returns-in-Err-clause-made : goal.returns-in-Err-clause-made
unfolding call_fault
returns-in-Err-clause-made g c =
    λ A st. refused_at _ A _ _ c.in-Err.fault _ st (fault_first _ _ c.in-Err.fault (c.in-Err.ensures A st))

pub call-requires-clause-known : goal.call-requires-clause-known
call-requires-clause-known g c = knows c.args.self.now c.args.pass c.in_default.field-0 c.in_default.ensures

pub returns-in-Ok-clause-made : goal.returns-in-Ok-clause-made
unfolding call_fault
returns-in-Ok-clause-made g c =
    let made = rw (ap (λ (z : PassRecord). z.slot) c.pass.view_is) at c.in-Ok.ensures.made in
    λ A st. replied_as _ _ c.in-Ok.field-0 _ c.call.new.self c.abandon.result _ (same_faults _ _ _ _ _ c.call.new.self _ (fault_second _ _ c.in_default.field-0 (c.in_default.ensures A st)) (made A st))
    (λ none e. c.abandon.ensures ∙ ap (λ (z : PassRecord). z.rider) c.in-Ok.ensures.pass)

pub returns-in-Err-call-clause-made : goal.returns-in-Err-call-clause-made
unfolding call_fault
returns-in-Err-call-clause-made g c =
    let made = rw (ap (λ (z : PassRecord). z.slot) c.pass.view_is) at c.in-Err-call.ensures.made in
    λ A st. refused_as _ _ _ _ c.call.new.self c.in-Err-call.fault (same_faults _ _ _ _ _ c.call.new.self _ (fault_second _ _ c.in_default.field-0 (c.in_default.ensures A st)) (made A st))
